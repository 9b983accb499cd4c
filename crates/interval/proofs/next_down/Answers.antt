use mathlib.Core.Path.{ap}
use lib.Ieee.{neg}
use Rattle.interval.specs.Next.{next_down}
use Rattle.interval.proofs.next_down.Goals as goal

pub returns : goal.returns
unfolding next_down
returns c = ap neg c.next_up.ensures
