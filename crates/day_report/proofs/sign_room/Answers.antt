use Rattle.day_report.proofs.Whole.{blank-signs}
use Rattle.day_report.proofs.sign_room.Goals as goal

pub returns : goal.returns
returns c = blank-signs
