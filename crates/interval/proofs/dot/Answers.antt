use mathlib.Core.Path.{◌≡◌}
use native.Mathlib.Omega.{arith}
use Rattle.interval.proofs.Answers.{sum-none, sum_more, sum_done}
use Rattle.interval.proofs.dot.Goals as goal

pub loop-i-init : goal.loop-i-init
loop-i-init c = sum-none _ _ c.of-sum.ensures

pub loop-i-preserved : goal.loop-i-preserved
loop-i-preserved c = sum_more _ _ _ c.product.result _ c.add-sum.ensures c.product.ensures c.loop-i.invariant

pub returns : goal.returns
returns c = let e : c.loop-i.i ≡ c.args.n = omega arith in sum_done _ _ _ _ e c.loop-i.invariant
