-- `side_of`: each way out is one law.
use Rattle.step_rows.proofs.Sides.{closed, open_above, open-below}
use Rattle.step_rows.proofs.side_of.Goals as goal

pub returns-then-bound-2 : goal.returns-then-bound-2
returns-then-bound-2 c = closed _ c.if-bound.true c.if-bound-2.true

pub returns-else-bound-2 : goal.returns-else-bound-2
returns-else-bound-2 c = open-below _ c.if-bound-2.false

pub returns-else-bound : goal.returns-else-bound
returns-else-bound c = open_above _ c.if-bound.false
