-- `reflect_four`: one after the other where a vector stays, and else together.
use native.Mathlib.Omega.{arith}
use Rattle.householder.proofs.SideBySide.{together-reflected}
use Rattle.householder.proofs.fours.reflect_four.Goals as goal

pub overflow_mul-k : goal.overflow_mul-k
overflow_mul-k c = omega arith

pub overflow_add-k : goal.overflow_add-k
overflow_add-k c = omega arith

pub overflow_add-o : goal.overflow_add-o
overflow_add-o c = omega arith

pub overflow_sub-m : goal.overflow_sub-m
overflow_sub-m c = omega arith

pub products_four-s-requires : goal.products_four-s-requires
products_four-s-requires c = omega arith

pub reflect_each-requires : goal.reflect_each-requires
reflect_each-requires c = (c.requires.0, c.requires.1, c.requires.2, c.requires.3, c.products_four-s.ensures)

pub shape_of-w-then-stays : goal.shape_of-w-then-stays
shape_of-w-then-stays c = c.reflect_each.auto.w

pub returns-then-stays : goal.returns-then-stays
returns-then-stays c = c.reflect_each.ensures

pub overflow_add-b : goal.overflow_add-b
overflow_add-b c = omega arith

pub offset_bounds-w-k : goal.offset_bounds-w-k
offset_bounds-w-k c = omega arith

pub bounds-w-k : goal.bounds-w-k
bounds-w-k c = omega arith

pub overflow_mul-k-2 : goal.overflow_mul-k-2
overflow_mul-k-2 c = omega arith

pub overflow_add-k-2 : goal.overflow_add-k-2
overflow_add-k-2 c = omega arith

pub overflow_add-o-2 : goal.overflow_add-o-2
overflow_add-o-2 c = omega arith

pub overflow_sub-m-2 : goal.overflow_sub-m-2
overflow_sub-m-2 c = omega arith

pub lift_four-requires : goal.lift_four-requires
lift_four-requires c = omega arith

pub shape_of-w : goal.shape_of-w
shape_of-w c = c.lift_four.auto.w

pub returns : goal.returns
returns c = let a = c.args in
    let p = c.products_four-s in
    together-reflected a.m a.k a.o a.w.now c.requires.0 c.requires.1 c.requires.2 p.result p.ensures _ (c.some_zero-stays.ensures c.if-stays.false) c.lift_four.ensures
