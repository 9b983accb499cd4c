use lib.Ieee.{of_bits}
use Rattle.search_turn.proofs.violation_of.Goals as goal

pub returns-then-equality : goal.returns-then-equality
returns-then-equality c = rw c.if-equality.true c.magnitude_of.ensures

pub returns-then-c : goal.returns-then-c
unfolding of_bits
returns-then-c c = rw (c.if-equality.false, c.if-c.true)

pub returns : goal.returns
unfolding of_bits
returns c = rw (c.if-equality.false, c.if-c.false)
