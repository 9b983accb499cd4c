use mathlib.Core.Path.{ap}
use lib.Ieee.{neg}
use Rattle.interval.specs.Intervals.{smaller}
use Rattle.interval.proofs.smaller.Goals as goal

pub returns : goal.returns
unfolding smaller
returns c = ap neg c.larger.ensures
