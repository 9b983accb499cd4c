use mathlib.Core.Path.{refl}
use lib.Ieee.{round, of_bits}
use Rattle.search.specs.Turn.{is_enough}
use Rattle.search_turn.proofs.is_enough.Goals as goal

pub returns : goal.returns
unfolding is_enough round of_bits
returns c = λ n. rw c.negative_of.ensures refl
