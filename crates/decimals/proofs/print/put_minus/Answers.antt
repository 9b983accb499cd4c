-- `put_minus`: a minus, or nothing.
use native.Mathlib.Omega.{arith}
use Rattle.ascii.proofs.Writing.{wrote_none, as-text}
use Rattle.decimals.proofs.Signs.{minus-some, minus-none}
use Rattle.decimals.proofs.print.put_minus.Goals as goal

pub returns-then-negative : goal.returns-then-negative
returns-then-negative c = let n = c.if-negative.true in record { wrote = as-text (minus-some _ n) c.put_byte.ensures; upper_bound = omega (arith, c.put_byte.ensures.until) }

pub returns : goal.returns
returns c = record { wrote = as-text (minus-none _ c.if-negative.false) (wrote_none _ _ (omega arith)); upper_bound = omega arith }
