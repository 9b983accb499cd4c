use mathlib.Core.Path.{refl}
use lib.Ieee.{round, of_bits}
use Rattle.search_turn.proofs.penalty_of.Goals as goal

pub returns : goal.returns
unfolding round of_bits
returns c = rw (c.larger_of.ensures, c.magnitude_of-size.ensures) refl
