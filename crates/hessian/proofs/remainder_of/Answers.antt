-- `remainder_of`: the places lie in the matrices, and the sum is the definition's.
use Prim.Native.Nat.{◌<◌}
use Rattle.numbers.proofs.Lists.{row_fits}
use Rattle.hessian.proofs.Turns.{remainder_is}
use native.Mathlib.Omega.{arith}
use Rattle.hessian.proofs.remainder_of.Goals as goal

pub overflow_mul-p : goal.overflow_mul-p
overflow_mul-p c = (let a = c.args in let p : a.i < a.n = omega arith in omega (arith, row_fits a.n a.n a.i p, row_fits a.n a.n a.j (omega arith)))

pub overflow_mul-q : goal.overflow_mul-q
overflow_mul-q c = (let a = c.args in let p : a.i < a.n = omega arith in omega (arith, row_fits a.n a.n a.i p, row_fits a.n a.n a.j (omega arith)))

pub overflow_add-result : goal.overflow_add-result
overflow_add-result c = (let a = c.args in let p : a.i < a.n = omega arith in omega (arith, row_fits a.n a.n a.i p, row_fits a.n a.n a.j (omega arith)))

pub offset_bounds-b-p : goal.offset_bounds-b-p
offset_bounds-b-p c = (let a = c.args in let p : a.i < a.n = omega arith in omega (arith, row_fits a.n a.n a.i p, row_fits a.n a.n a.j (omega arith)))

pub bounds-b-p : goal.bounds-b-p
bounds-b-p c = (let a = c.args in let p : a.i < a.n = omega arith in omega (arith, row_fits a.n a.n a.i p, row_fits a.n a.n a.j (omega arith)))

pub dot_within-requires : goal.dot_within-requires
dot_within-requires c = let a = c.args in (omega (arith, row_fits a.n a.n a.i (omega arith)), omega (arith, row_fits a.n a.n a.j (omega arith)))

pub returns : goal.returns
returns c = let a = c.args in remainder_is a.n a.b.now a.l.now a.i a.j _ c.dot_within.ensures
