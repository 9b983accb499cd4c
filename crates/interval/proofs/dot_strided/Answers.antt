use mathlib.Core.Path.{◌≡◌}
use native.Mathlib.Omega.{arith}
use Rattle.interval.proofs.Answers.{sum-none, sum_more, sum_done}
use Rattle.interval.proofs.dot_strided.Goals as goal

pub loop-i-init : goal.loop-i-init
loop-i-init c = sum-none _ _ c.of-sum.ensures

pub overflow_mul-x : goal.overflow_mul-x
overflow_mul-x c = omega (arith, c.requires.by_index c.loop-i.i c.loop-i-test.true)

pub overflow_add-x : goal.overflow_add-x
overflow_add-x c = omega (arith, c.requires.by_index c.loop-i.i c.loop-i-test.true)

pub offset_bounds-xs-a : goal.offset_bounds-xs-a
offset_bounds-xs-a c = omega (arith, c.requires.by_index c.loop-i.i c.loop-i-test.true)

pub bounds-xs-a : goal.bounds-xs-a
bounds-xs-a c = c.requires.by_index c.loop-i.i c.loop-i-test.true

pub overflow_mul-y : goal.overflow_mul-y
overflow_mul-y c = omega (arith, c.requires.by_index_2 c.loop-i.i c.loop-i-test.true)

pub overflow_add-y : goal.overflow_add-y
overflow_add-y c = omega (arith, c.requires.by_index_2 c.loop-i.i c.loop-i-test.true)

pub offset_bounds-ys-b : goal.offset_bounds-ys-b
offset_bounds-ys-b c = omega (arith, c.requires.by_index_2 c.loop-i.i c.loop-i-test.true)

pub bounds-ys-b : goal.bounds-ys-b
bounds-ys-b c = c.requires.by_index_2 c.loop-i.i c.loop-i-test.true

pub loop-i-preserved : goal.loop-i-preserved
loop-i-preserved c = sum_more _ _ _ c.product.result _ c.add-sum.ensures c.product.ensures c.loop-i.invariant

pub returns : goal.returns
returns c = let e : c.loop-i.i ≡ c.args.n = omega arith in sum_done _ _ _ _ e c.loop-i.invariant
