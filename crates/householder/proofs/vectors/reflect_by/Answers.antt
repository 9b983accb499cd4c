-- `reflect_by`: where the dot is exactly zero nothing is written, and else the vector is lifted.
use native.Mathlib.Omega.{arith}
use Rattle.householder.proofs.Reflections.{reflect-stays, reflect-moves}
use Rattle.householder.proofs.vectors.reflect_by.Goals as goal

pub returns-then-d : goal.returns-then-d
returns-then-d c = reflect-stays c.args.m c.args.k c.args.o c.args.w.now c.requires.1 c.args.d c.requires.4 c.if-d.true

pub overflow_add-s : goal.overflow_add-s
overflow_add-s c = omega arith

pub offset_bounds-w-k : goal.offset_bounds-w-k
offset_bounds-w-k c = omega arith

pub bounds-w-k : goal.bounds-w-k
bounds-w-k c = omega arith

pub overflow_mul-k : goal.overflow_mul-k
overflow_mul-k c = omega arith

pub overflow_add-k : goal.overflow_add-k
overflow_add-k c = omega arith

pub overflow_add-o : goal.overflow_add-o
overflow_add-o c = omega arith

pub overflow_sub-m : goal.overflow_sub-m
overflow_sub-m c = omega arith

pub lift-requires : goal.lift-requires
lift-requires c = omega arith

pub shape_of-w : goal.shape_of-w
shape_of-w c = omega arith

pub returns : goal.returns
returns c = reflect-moves c.args.m c.args.k c.args.o c.args.w.now c.requires.1 c.args.d c.requires.4 _ c.if-d.false c.lift.ensures
