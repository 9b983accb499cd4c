-- `residual_four`, by the sums.
use native.Mathlib.Omega.{arith}
use Rattle.lsei_nullspace.proofs.FourSums.{residual-four-is}
use Rattle.lsei_nullspace.proofs.residual_four.Goals as goal

pub overflow_mul-i : goal.overflow_mul-i
overflow_mul-i c = omega arith

pub overflow_add-i : goal.overflow_add-i
overflow_add-i c = omega arith

pub row_sums_four-s-requires : goal.row_sums_four-s-requires
row_sums_four-s-requires c = omega arith

pub overflow_add-result : goal.overflow_add-result
overflow_add-result c = omega arith

pub offset_bounds-w-i : goal.offset_bounds-w-i
offset_bounds-w-i c = omega arith

pub bounds-w-i : goal.bounds-w-i
bounds-w-i c = omega arith

pub overflow_add-result-2 : goal.overflow_add-result-2
overflow_add-result-2 c = omega arith

pub overflow_add-result-3 : goal.overflow_add-result-3
overflow_add-result-3 c = omega arith

pub offset_bounds-w-i-2 : goal.offset_bounds-w-i-2
offset_bounds-w-i-2 c = omega arith

pub bounds-w-i-2 : goal.bounds-w-i-2
bounds-w-i-2 c = omega arith

pub overflow_add-result-4 : goal.overflow_add-result-4
overflow_add-result-4 c = omega arith

pub overflow_add-result-5 : goal.overflow_add-result-5
overflow_add-result-5 c = omega arith

pub offset_bounds-w-i-3 : goal.offset_bounds-w-i-3
offset_bounds-w-i-3 c = omega arith

pub bounds-w-i-3 : goal.bounds-w-i-3
bounds-w-i-3 c = omega arith

pub overflow_add-result-6 : goal.overflow_add-result-6
overflow_add-result-6 c = omega arith

pub overflow_add-result-7 : goal.overflow_add-result-7
overflow_add-result-7 c = omega arith

pub offset_bounds-w-i-4 : goal.offset_bounds-w-i-4
offset_bounds-w-i-4 c = omega arith

pub bounds-w-i-4 : goal.bounds-w-i-4
bounds-w-i-4 c = omega arith

pub returns : goal.returns
returns c = let a = c.args in residual-four-is a.n a.i a.w.now c.row_sums_four-s.result c.row_sums_four-s.ensures
