use Rattle.search.specs.Turn.{magnitude}
use lib.Ieee.{of_bits}
use Rattle.search_turn.proofs.magnitude_of.Goals as goal

pub returns-then-x : goal.returns-then-x
unfolding magnitude of_bits
returns-then-x c = rw c.if-x.true

pub returns-then-x-2 : goal.returns-then-x-2
unfolding magnitude of_bits
returns-then-x-2 c = rw (c.if-x.false, c.if-x-2.true)

pub returns : goal.returns
unfolding magnitude of_bits
returns c = rw (c.if-x.false, c.if-x-2.false)
