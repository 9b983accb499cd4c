-- `lay_e`: the tail of the row, and its side.
use native.Mathlib.Omega.{arith}
use lib.ListN.{length-set}
use Rattle.lsei_nullspace.proofs.Turning.{laid-e}
use Rattle.lsei_nullspace.proofs.lay_e.Goals as goal

pub overflow_add-p : goal.overflow_add-p
overflow_add-p c = omega arith

pub overflow_add-i : goal.overflow_add-i
overflow_add-i c = omega arith

pub overflow_sub-n : goal.overflow_sub-n
overflow_sub-n c = omega arith

pub space-requires : goal.space-requires
space-requires c = omega (arith, c.requires)

pub dot_within-t-requires : goal.dot_within-t-requires
dot_within-t-requires c = omega (arith, c.space.auto.w, c.requires)

pub overflow_add-w : goal.overflow_add-w
overflow_add-w c = omega arith

pub offset_bounds-w-i : goal.offset_bounds-w-i
offset_bounds-w-i c = omega arith

pub bounds-w-i : goal.bounds-w-i
bounds-w-i c = omega (arith, c.space.auto.w, c.requires)

pub overflow_add-w-2 : goal.overflow_add-w-2
overflow_add-w-2 c = omega arith

pub offset_bounds-w-i-2 : goal.offset_bounds-w-i-2
offset_bounds-w-i-2 c = omega arith

pub bounds-w-i-2 : goal.bounds-w-i-2
bounds-w-i-2 c = omega (arith, c.space.auto.w, c.requires)

pub shape_of-w : goal.shape_of-w
shape_of-w c = simp length-set c.space.auto.w

pub returns : goal.returns
returns c = let a = c.args in
    let C = c.space in
    let D = c.dot_within-t in
    laid-e a.n a.mc a.i a.p a.w.now C.new.w D.result c.requires.0 c.requires.1 c.requires.2 c.requires.3 c.requires.4 C.ensures D.ensures
    (omega (arith, C.auto.w, c.requires))
