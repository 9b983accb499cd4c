-- `is_pivot`: above zero, then below infinity.
use Rattle.hessian.proofs.Turns.{pivot-some, pivot-none}
use Rattle.hessian.proofs.is_pivot.Goals as goal

pub returns-then-p : goal.returns-then-p
returns-then-p c = pivot-some _ c.if-p.true

pub returns : goal.returns
returns c = pivot-none _ c.if-p.false
