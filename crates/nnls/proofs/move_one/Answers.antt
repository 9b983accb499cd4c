-- `move_one`, each way out by its tests.
use lib.Ieee.{of_bits}
use Rattle.nnls.proofs.Moves.{next-out, next-blocks, next_down, next-stays}
use Rattle.nnls.proofs.move_one.Goals as goal

pub returns-then-mark-eq0 : goal.returns-then-mark-eq0
returns-then-mark-eq0 c = next-out _ _ _ _ _ _ c.if-mark-eq0.true

pub returns-then-j-q : goal.returns-then-j-q
unfolding of_bits
returns-then-j-q c = next-blocks _ _ _ _ _ _ c.if-mark-eq0.false c.if-j-q.true

pub returns-then-v : goal.returns-then-v
unfolding of_bits
returns-then-v c = next_down _ _ _ _ _ _ c.if-mark-eq0.false c.if-j-q.false c.if-v.true

pub returns : goal.returns
unfolding of_bits
returns c = next-stays _ _ _ _ _ _ c.if-mark-eq0.false c.if-j-q.false c.if-v.false
