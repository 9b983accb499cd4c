-- `curved_at`: after k turns t is the sum of the first k products.
use native.Mathlib.Omega.{arith}
use Rattle.numbers.proofs.Sums.{Σ-none, Σ-more, Σ-done}
use Rattle.step_check.specs.Check.{curved}
use Rattle.step_check.proofs.slopes.curved_at.Goals as goal

pub loop-k-init : goal.loop-k-init
loop-k-init c = (omega arith, Σ-none _)

pub loop-k-preserved : goal.loop-k-preserved
loop-k-preserved c = (omega arith, rw c.halfway_at.ensures (Σ-more _ _ _ c.loop-k.invariant.1))

pub returns : goal.returns
unfolding curved
returns c = Σ-done _ _ _ _ (omega arith) (omega arith) c.loop-k.invariant.1
