-- `lay_g`: the tail of the row, and its side.
use native.Mathlib.Omega.{arith}
use lib.ListN.{length-set}
use Rattle.lsei_nullspace.proofs.Turning.{laid-g}
use Rattle.lsei_nullspace.proofs.lay_g.Goals as goal

pub overflow_add-p : goal.overflow_add-p
overflow_add-p c = omega arith

pub overflow_mul-i : goal.overflow_mul-i
overflow_mul-i c = omega arith

pub overflow_add-i : goal.overflow_add-i
overflow_add-i c = omega arith

pub overflow_sub-n : goal.overflow_sub-n
overflow_sub-n c = omega arith

pub copy_up-requires : goal.copy_up-requires
copy_up-requires c = omega (arith, c.requires)

pub dot_within-t-requires : goal.dot_within-t-requires
dot_within-t-requires c = omega (arith, c.copy_up.auto.w, c.requires)

pub overflow_mul-w : goal.overflow_mul-w
overflow_mul-w c = omega arith

pub overflow_add-w : goal.overflow_add-w
overflow_add-w c = omega arith

pub overflow_add-w-2 : goal.overflow_add-w-2
overflow_add-w-2 c = omega arith

pub offset_bounds-w-i : goal.offset_bounds-w-i
offset_bounds-w-i c = omega arith

pub bounds-w-i : goal.bounds-w-i
bounds-w-i c = omega (arith, c.copy_up.auto.w, c.requires)

pub overflow_mul-w-2 : goal.overflow_mul-w-2
overflow_mul-w-2 c = omega arith

pub overflow_add-w-3 : goal.overflow_add-w-3
overflow_add-w-3 c = omega arith

pub overflow_sub-w : goal.overflow_sub-w
overflow_sub-w c = omega arith

pub overflow_add-w-4 : goal.overflow_add-w-4
overflow_add-w-4 c = omega arith

pub offset_bounds-w-i-2 : goal.offset_bounds-w-i-2
offset_bounds-w-i-2 c = omega arith

pub bounds-w-i-2 : goal.bounds-w-i-2
bounds-w-i-2 c = omega (arith, c.copy_up.auto.w, c.requires)

pub shape_of-w : goal.shape_of-w
shape_of-w c = simp length-set c.copy_up.auto.w

pub returns : goal.returns
returns c = let a = c.args in
    let C = c.copy_up in
    let D = c.dot_within-t in
    laid-g a.n a.mc a.i a.p a.w.now C.new.w D.result c.requires.0 c.requires.1 c.requires.2 c.requires.3 c.requires.4 C.ensures D.ensures
    (omega (arith, C.auto.w, c.requires))
