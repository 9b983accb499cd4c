-- `dual_four`, by the sums.
use native.Mathlib.Omega.{arith}
use Rattle.nnls.proofs.Fours.{dual-four-is}
use Rattle.nnls.proofs.dual.dual_four.Goals as goal

pub overflow_mul-j : goal.overflow_mul-j
overflow_mul-j c = omega arith

pub row_sums_four-requires : goal.row_sums_four-requires
row_sums_four-requires c = omega arith

pub returns : goal.returns
returns c = let a = c.args in dual-four-is a.m a.j a.w.now c.row_sums_four.result c.row_sums_four.ensures
