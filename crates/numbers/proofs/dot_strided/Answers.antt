-- `dot_strided` meets its contract. The loop's invariant: `part` is the sum of the first `i` products.
use native.Mathlib.Omega.{arith}
use Rattle.numbers.proofs.Sums.{Σ-none, Σ-more}
use Rattle.numbers.proofs.dot_strided.Goals as goal

pub loop-i-init : goal.loop-i-init
loop-i-init c = Σ-none _

pub overflow_mul-part : goal.overflow_mul-part
overflow_mul-part c = omega (arith, (c.requires.by_index c.loop-i.i c.loop-i-test.true))

pub overflow_add-part : goal.overflow_add-part
overflow_add-part c = omega (arith, (c.requires.by_index c.loop-i.i c.loop-i-test.true))

pub offset_bounds-xs-a : goal.offset_bounds-xs-a
offset_bounds-xs-a c = omega (arith, (c.requires.by_index c.loop-i.i c.loop-i-test.true))

pub bounds-xs-a : goal.bounds-xs-a
bounds-xs-a c = (c.requires.by_index c.loop-i.i c.loop-i-test.true)

pub overflow_mul-part-in-loop-i : goal.overflow_mul-part-in-loop-i
overflow_mul-part-in-loop-i c = omega (arith, (c.requires.by_index_2 c.loop-i.i c.loop-i-test.true))

pub overflow_add-part-in-loop-i : goal.overflow_add-part-in-loop-i
overflow_add-part-in-loop-i c = omega (arith, (c.requires.by_index_2 c.loop-i.i c.loop-i-test.true))

pub offset_bounds-ys-b : goal.offset_bounds-ys-b
offset_bounds-ys-b c = omega (arith, (c.requires.by_index_2 c.loop-i.i c.loop-i-test.true))

pub bounds-ys-b : goal.bounds-ys-b
bounds-ys-b c = (c.requires.by_index_2 c.loop-i.i c.loop-i-test.true)

pub loop-i-preserved : goal.loop-i-preserved
loop-i-preserved c = Σ-more _ _ _ c.loop-i.invariant
