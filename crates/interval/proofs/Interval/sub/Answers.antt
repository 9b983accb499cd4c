use mathlib.Core.Path.{ap₂}
use Rattle.interval.proofs.Answers.{ends}
use Rattle.interval.specs.Intervals.{minus}
use Rattle.interval.proofs.Interval.sub.Goals as goal

pub returns : goal.returns
unfolding minus
returns c = ap₂ ends c.add_down.ensures c.add_up.ensures
