use Rattle.interval.proofs.Answers.{line-is}
use Rattle.interval.proofs.Interval.line.Goals as goal

pub returns : goal.returns
returns c = line-is
