-- `shift_four`: four sides more are shifted.
use native.Mathlib.Omega.{arith}
use lib.ListN.{length-set}
use Rattle.lsei.proofs.Rows.{shifted-four}
use Rattle.lsei.proofs.shift_four.Goals as goal

pub overflow_mul-o : goal.overflow_mul-o
overflow_mul-o c = omega arith

pub overflow_add-o : goal.overflow_add-o
overflow_add-o c = omega arith

pub row_sums_four-s-requires : goal.row_sums_four-s-requires
row_sums_four-s-requires c = omega arith

pub overflow_add-w : goal.overflow_add-w
overflow_add-w c = omega arith

pub offset_bounds-w-o : goal.offset_bounds-w-o
offset_bounds-w-o c = omega arith

pub bounds-w-o : goal.bounds-w-o
bounds-w-o c = omega arith

pub overflow_add-w-2 : goal.overflow_add-w-2
overflow_add-w-2 c = omega arith

pub offset_bounds-w-o-2 : goal.offset_bounds-w-o-2
offset_bounds-w-o-2 c = omega arith

pub bounds-w-o-2 : goal.bounds-w-o-2
bounds-w-o-2 c = omega arith

pub overflow_add-w-3 : goal.overflow_add-w-3
overflow_add-w-3 c = omega arith

pub overflow_add-w-4 : goal.overflow_add-w-4
overflow_add-w-4 c = omega arith

pub offset_bounds-w-o-3 : goal.offset_bounds-w-o-3
offset_bounds-w-o-3 c = omega arith

pub bounds-w-o-3 : goal.bounds-w-o-3
bounds-w-o-3 c = simp length-set (omega (arith, c.requires))

pub overflow_add-w-5 : goal.overflow_add-w-5
overflow_add-w-5 c = omega arith

pub overflow_add-w-6 : goal.overflow_add-w-6
overflow_add-w-6 c = omega arith

pub offset_bounds-w-o-4 : goal.offset_bounds-w-o-4
offset_bounds-w-o-4 c = omega arith

pub bounds-w-o-4 : goal.bounds-w-o-4
bounds-w-o-4 c = simp length-set (omega (arith, c.requires))

pub overflow_add-w-7 : goal.overflow_add-w-7
overflow_add-w-7 c = omega arith

pub overflow_add-w-8 : goal.overflow_add-w-8
overflow_add-w-8 c = omega arith

pub offset_bounds-w-o-5 : goal.offset_bounds-w-o-5
offset_bounds-w-o-5 c = omega arith

pub bounds-w-o-5 : goal.bounds-w-o-5
bounds-w-o-5 c = simp length-set (omega (arith, c.requires))

pub overflow_add-w-9 : goal.overflow_add-w-9
overflow_add-w-9 c = omega arith

pub overflow_add-w-10 : goal.overflow_add-w-10
overflow_add-w-10 c = omega arith

pub offset_bounds-w-o-6 : goal.offset_bounds-w-o-6
offset_bounds-w-o-6 c = omega arith

pub bounds-w-o-6 : goal.bounds-w-o-6
bounds-w-o-6 c = simp length-set (omega (arith, c.requires))

pub overflow_add-w-11 : goal.overflow_add-w-11
overflow_add-w-11 c = omega arith

pub overflow_add-w-12 : goal.overflow_add-w-12
overflow_add-w-12 c = omega arith

pub offset_bounds-w-o-7 : goal.offset_bounds-w-o-7
offset_bounds-w-o-7 c = omega arith

pub bounds-w-o-7 : goal.bounds-w-o-7
bounds-w-o-7 c = simp length-set (omega (arith, c.requires))

pub overflow_add-w-13 : goal.overflow_add-w-13
overflow_add-w-13 c = omega arith

pub overflow_add-w-14 : goal.overflow_add-w-14
overflow_add-w-14 c = omega arith

pub offset_bounds-w-o-8 : goal.offset_bounds-w-o-8
offset_bounds-w-o-8 c = omega arith

pub bounds-w-o-8 : goal.bounds-w-o-8
bounds-w-o-8 c = simp length-set (omega (arith, c.requires))

pub shape_of-w : goal.shape_of-w
shape_of-w c = simp length-set

pub returns : goal.returns
returns c = let k = c.row_sums_four-s in
    λ v r. shifted-four c.args.n c.args.i v c.args.w.now k.result c.requires.0 (omega (arith, c.requires)) k.ensures r
