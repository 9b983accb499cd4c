-- `lift_one`: four writes, each to its own vector.
use mathlib.Core.Path.{refl}
use native.Mathlib.Omega.{arith}
use lib.ListN.{length-set}
use Rattle.householder.proofs.SideBySide.{lifted-one}
use Rattle.householder.proofs.fours.lift_one.Goals as goal

pub offset_bounds-w-p : goal.offset_bounds-w-p
offset_bounds-w-p c = omega arith

pub bounds-w-p : goal.bounds-w-p
bounds-w-p c = omega arith

pub offset_bounds-w-q : goal.offset_bounds-w-q
offset_bounds-w-q c = omega arith

pub bounds-w-q : goal.bounds-w-q
bounds-w-q c = omega arith

pub offset_bounds-w-q-2 : goal.offset_bounds-w-q-2
offset_bounds-w-q-2 c = omega arith

pub bounds-w-q-2 : goal.bounds-w-q-2
bounds-w-q-2 c = omega arith

pub overflow_add-w : goal.overflow_add-w
overflow_add-w c = omega arith

pub offset_bounds-w-q-3 : goal.offset_bounds-w-q-3
offset_bounds-w-q-3 c = omega arith

pub bounds-w-q-3 : goal.bounds-w-q-3
bounds-w-q-3 c = simp length-set (omega arith)

pub overflow_add-w-2 : goal.overflow_add-w-2
overflow_add-w-2 c = omega arith

pub offset_bounds-w-q-4 : goal.offset_bounds-w-q-4
offset_bounds-w-q-4 c = omega arith

pub bounds-w-q-4 : goal.bounds-w-q-4
bounds-w-q-4 c = simp length-set (omega arith)

pub overflow_add-w-3 : goal.overflow_add-w-3
overflow_add-w-3 c = omega arith

pub offset_bounds-w-q-5 : goal.offset_bounds-w-q-5
offset_bounds-w-q-5 c = omega arith

pub bounds-w-q-5 : goal.bounds-w-q-5
bounds-w-q-5 c = simp length-set (omega arith)

pub overflow_add-w-4 : goal.overflow_add-w-4
overflow_add-w-4 c = omega arith

pub offset_bounds-w-q-6 : goal.offset_bounds-w-q-6
offset_bounds-w-q-6 c = omega arith

pub bounds-w-q-6 : goal.bounds-w-q-6
bounds-w-q-6 c = simp length-set (omega arith)

pub overflow_add-w-5 : goal.overflow_add-w-5
overflow_add-w-5 c = omega arith

pub offset_bounds-w-q-7 : goal.offset_bounds-w-q-7
offset_bounds-w-q-7 c = omega arith

pub bounds-w-q-7 : goal.bounds-w-q-7
bounds-w-q-7 c = simp length-set (omega arith)

pub overflow_add-w-6 : goal.overflow_add-w-6
overflow_add-w-6 c = omega arith

pub offset_bounds-w-q-8 : goal.offset_bounds-w-q-8
offset_bounds-w-q-8 c = omega arith

pub bounds-w-q-8 : goal.bounds-w-q-8
bounds-w-q-8 c = simp length-set (omega arith)

pub shape_of-w : goal.shape_of-w
shape_of-w c = simp length-set refl

pub returns : goal.returns
returns c = lifted-one c.args.p c.args.q c.args.s c.args.w.now c.requires.1
