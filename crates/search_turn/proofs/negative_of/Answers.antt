use Rattle.search.specs.Turn.{negative}
use lib.Ieee.{of_bits}
use Rattle.search_turn.proofs.negative_of.Goals as goal

pub returns-then-x : goal.returns-then-x
unfolding negative of_bits
returns-then-x c = rw c.if-x.true

pub returns : goal.returns
unfolding negative of_bits
returns c = rw c.if-x.false
