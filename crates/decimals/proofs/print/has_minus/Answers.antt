-- `has_minus`: negative and not zero.
use Rattle.decimals.proofs.print.has_minus.Goals as goal

pub returns-then-negative : goal.returns-then-negative
returns-then-negative c = rw c.if-negative.true
