-- `within`: below the rows and the columns.
use Prim.Native.Nat.{◌*◌, ◌≤◌}
use native.Mathlib.Nat.{mul-le-mul}
use native.Mathlib.Omega.{arith}
use borrow.Author.Tests.{lt-ltb, le-ltb}
use Rattle.problem_read.specs.inner.Spots.{spot_in}
use Rattle.problem_read.proofs.within.Goals as goal

pub overflow_mul-result : goal.overflow_mul-result
overflow_mul-result c = let a = c.args in
    let h : a.row ≤ 16 = omega arith in
    let q : a.row * a.b.cols ≤ 16 * 16 = mul-le-mul h c.requires.2 in
    omega arith

pub overflow_add-result : goal.overflow_add-result
overflow_add-result c = let a = c.args in
    let h : a.row ≤ 16 = omega arith in
    let q : a.row * a.b.cols ≤ 16 * 16 = mul-le-mul h c.requires.2 in
    omega arith

pub overflow_add-result-then-col-cols : goal.overflow_add-result-then-col-cols
overflow_add-result-then-col-cols c = let a = c.args in
    let h : a.row ≤ 16 = omega arith in
    let q : a.row * a.b.cols ≤ 16 * 16 = mul-le-mul h c.requires.2 in
    omega arith

pub returns-then-col-cols : goal.returns-then-col-cols
unfolding spot_in
returns-then-col-cols c = simp (lt-ltb _ _ c.if-row-b.true, lt-ltb _ _ c.if-col-cols.true)

pub returns-else-col-cols : goal.returns-else-col-cols
unfolding spot_in
returns-else-col-cols c = simp (lt-ltb _ _ c.if-row-b.true, le-ltb _ _ c.if-col-cols.false)

pub returns-else-row-b : goal.returns-else-row-b
unfolding spot_in
returns-else-row-b c = simp (le-ltb _ _ c.if-row-b.false)
