-- `residual_four`, by the sums.
use native.Mathlib.Omega.{arith}
use Rattle.lsei.proofs.FourSums.{residual-four-is}
use Rattle.lsei.proofs.residual_four.Goals as goal

pub sums_four-s-requires : goal.sums_four-s-requires
sums_four-s-requires c = omega arith

pub overflow_add-result : goal.overflow_add-result
overflow_add-result c = omega arith

pub offset_bounds-w-j : goal.offset_bounds-w-j
offset_bounds-w-j c = omega arith

pub bounds-w-j : goal.bounds-w-j
bounds-w-j c = omega arith

pub overflow_add-result-2 : goal.overflow_add-result-2
overflow_add-result-2 c = omega arith

pub overflow_add-result-3 : goal.overflow_add-result-3
overflow_add-result-3 c = omega arith

pub offset_bounds-w-j-2 : goal.offset_bounds-w-j-2
offset_bounds-w-j-2 c = omega arith

pub bounds-w-j-2 : goal.bounds-w-j-2
bounds-w-j-2 c = omega arith

pub overflow_add-result-4 : goal.overflow_add-result-4
overflow_add-result-4 c = omega arith

pub overflow_add-result-5 : goal.overflow_add-result-5
overflow_add-result-5 c = omega arith

pub offset_bounds-w-j-3 : goal.offset_bounds-w-j-3
offset_bounds-w-j-3 c = omega arith

pub bounds-w-j-3 : goal.bounds-w-j-3
bounds-w-j-3 c = omega arith

pub overflow_add-result-6 : goal.overflow_add-result-6
overflow_add-result-6 c = omega arith

pub overflow_add-result-7 : goal.overflow_add-result-7
overflow_add-result-7 c = omega arith

pub offset_bounds-w-j-4 : goal.offset_bounds-w-j-4
offset_bounds-w-j-4 c = omega arith

pub bounds-w-j-4 : goal.bounds-w-j-4
bounds-w-j-4 c = omega arith

pub returns : goal.returns
returns c = let a = c.args in residual-four-is a.m a.j a.w.now c.sums_four-s.result c.sums_four-s.ensures
