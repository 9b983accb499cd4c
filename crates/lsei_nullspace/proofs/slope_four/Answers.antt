-- `slope_four`, by the sums.
use native.Mathlib.Omega.{arith}
use Rattle.lsei_nullspace.proofs.FourSums.{slope-four-is}
use Rattle.lsei_nullspace.proofs.slope_four.Goals as goal

pub overflow_add-j : goal.overflow_add-j
overflow_add-j c = omega arith

pub sums_four-s-requires : goal.sums_four-s-requires
sums_four-s-requires c = omega arith

pub overflow_add-j-2 : goal.overflow_add-j-2
overflow_add-j-2 c = omega arith

pub sums_four-t-requires : goal.sums_four-t-requires
sums_four-t-requires c = omega arith

pub returns : goal.returns
returns c = let a = c.args in slope-four-is a.me a.mg a.j a.w.now c.sums_four-s.result c.sums_four-t.result c.sums_four-s.ensures c.sums_four-t.ensures
