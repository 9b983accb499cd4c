-- `lift_two`: all is read at entry, and each pair is written to its own vector.
use mathlib.Core.Path.{◌∙◌}
use native.Mathlib.Omega.{arith}
use Rattle.householder.proofs.SideBySide.{lifted-two}
use Rattle.householder.proofs.fours.lift_two.Goals as goal

pub offset_bounds-w-p : goal.offset_bounds-w-p
offset_bounds-w-p c = omega arith

pub bounds-w-p : goal.bounds-w-p
bounds-w-p c = omega arith

pub overflow_add-y : goal.overflow_add-y
overflow_add-y c = omega arith

pub offset_bounds-w-p-2 : goal.offset_bounds-w-p-2
offset_bounds-w-p-2 c = omega arith

pub bounds-w-p-2 : goal.bounds-w-p-2
bounds-w-p-2 c = omega arith

pub offset_bounds-w-q : goal.offset_bounds-w-q
offset_bounds-w-q c = omega arith

pub bounds-w-q : goal.bounds-w-q
bounds-w-q c = omega arith

pub overflow_add-aa : goal.overflow_add-aa
overflow_add-aa c = omega arith

pub offset_bounds-w-q-2 : goal.offset_bounds-w-q-2
offset_bounds-w-q-2 c = omega arith

pub bounds-w-q-2 : goal.bounds-w-q-2
bounds-w-q-2 c = omega arith

pub overflow_add-b : goal.overflow_add-b
overflow_add-b c = omega arith

pub offset_bounds-w-q-3 : goal.offset_bounds-w-q-3
offset_bounds-w-q-3 c = omega arith

pub bounds-w-q-3 : goal.bounds-w-q-3
bounds-w-q-3 c = omega arith

pub overflow_add-bb : goal.overflow_add-bb
overflow_add-bb c = omega arith

pub overflow_add-bb-2 : goal.overflow_add-bb-2
overflow_add-bb-2 c = omega arith

pub offset_bounds-w-q-4 : goal.offset_bounds-w-q-4
offset_bounds-w-q-4 c = omega arith

pub bounds-w-q-4 : goal.bounds-w-q-4
bounds-w-q-4 c = omega arith

pub overflow_add-c : goal.overflow_add-c
overflow_add-c c = omega arith

pub offset_bounds-w-q-5 : goal.offset_bounds-w-q-5
offset_bounds-w-q-5 c = omega arith

pub bounds-w-q-5 : goal.bounds-w-q-5
bounds-w-q-5 c = omega arith

pub overflow_add-cc : goal.overflow_add-cc
overflow_add-cc c = omega arith

pub overflow_add-cc-2 : goal.overflow_add-cc-2
overflow_add-cc-2 c = omega arith

pub offset_bounds-w-q-6 : goal.offset_bounds-w-q-6
offset_bounds-w-q-6 c = omega arith

pub bounds-w-q-6 : goal.bounds-w-q-6
bounds-w-q-6 c = omega arith

pub overflow_add-d : goal.overflow_add-d
overflow_add-d c = omega arith

pub offset_bounds-w-q-7 : goal.offset_bounds-w-q-7
offset_bounds-w-q-7 c = omega arith

pub bounds-w-q-7 : goal.bounds-w-q-7
bounds-w-q-7 c = omega arith

pub overflow_add-dd : goal.overflow_add-dd
overflow_add-dd c = omega arith

pub overflow_add-dd-2 : goal.overflow_add-dd-2
overflow_add-dd-2 c = omega arith

pub offset_bounds-w-q-8 : goal.offset_bounds-w-q-8
offset_bounds-w-q-8 c = omega arith

pub bounds-w-q-8 : goal.bounds-w-q-8
bounds-w-q-8 c = omega arith

pub put_two-requires : goal.put_two-requires
put_two-requires c = omega (arith, c.requires)

pub overflow_add-q : goal.overflow_add-q
overflow_add-q c = omega arith

pub put_two-requires-2 : goal.put_two-requires-2
put_two-requires-2 c = omega (arith, c.put_two.auto.w, c.requires)

pub overflow_add-q-2 : goal.overflow_add-q-2
overflow_add-q-2 c = omega arith

pub put_two-requires-3 : goal.put_two-requires-3
put_two-requires-3 c = omega (arith, c.put_two-2.auto.w, c.put_two.auto.w, c.requires)

pub overflow_add-q-3 : goal.overflow_add-q-3
overflow_add-q-3 c = omega arith

pub put_two-requires-4 : goal.put_two-requires-4
put_two-requires-4 c = omega (arith, c.put_two-3.auto.w, c.put_two-2.auto.w, c.put_two.auto.w, c.requires)

pub shape_of-w : goal.shape_of-w
shape_of-w c = c.put_two-4.auto.w ∙ c.put_two-3.auto.w ∙ c.put_two-2.auto.w ∙ c.put_two.auto.w

pub returns : goal.returns
returns c = lifted-two c.args.p c.args.q c.args.s c.args.w.now _ _ _ _ c.put_two.ensures c.put_two-2.ensures c.put_two-3.ensures c.put_two-4.ensures
