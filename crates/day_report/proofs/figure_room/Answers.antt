use Rattle.day_report.proofs.Whole.{blank-figures}
use Rattle.day_report.proofs.figure_room.Goals as goal

pub returns : goal.returns
returns c = blank-figures
