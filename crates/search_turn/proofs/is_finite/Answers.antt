use lib.Ieee.{div, of_bits, neg}
use Rattle.search_turn.proofs.Floats.{finite-above, finite-not}
use Rattle.search_turn.proofs.is_finite.Goals as goal

pub returns-then-x : goal.returns-then-x
unfolding div of_bits neg
returns-then-x c = finite-above _ c.if-x.true

pub returns : goal.returns
unfolding div of_bits
returns c = finite-not _ c.if-x.false
