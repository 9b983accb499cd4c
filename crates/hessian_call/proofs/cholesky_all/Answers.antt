-- `cholesky_all`: what was made in the front of the workspace is cleared with it.
use mathlib.Core.Path.{sym, ◌∙◌}
use Prim.Native.Nat.{◌*◌, ◌≤◌}
use native.Mathlib.Nat.{mul-le-mul}
use native.Mathlib.Omega.{arith}
use lib.Seq.{length-take-le}
use Rattle.numbers.specs.Numbers.{+0}
use Rattle.workspace.proofs.Clears.{cleared-behind}
use Rattle.hessian_call.proofs.cholesky_all.Goals as goal

pub overflow_mul-m : goal.overflow_mul-m
overflow_mul-m c = let a = c.args in
    let p : a.n ≤ 16 = omega arith in
    let q : a.n * a.n ≤ 256 = omega (arith, mul-le-mul p p) in
    omega (arith, q)

pub slice_bounds-factor_into-end : goal.slice_bounds-factor_into-end
slice_bounds-factor_into-end c = let a = c.args in
    let p : a.n ≤ 16 = omega arith in
    let q : a.n * a.n ≤ 256 = omega (arith, mul-le-mul p p) in
    omega (arith, q)

pub slice_bounds-factor_into-end-2 : goal.slice_bounds-factor_into-end-2
slice_bounds-factor_into-end-2 c = let a = c.args in
    let p : a.n ≤ 16 = omega arith in
    let q : a.n * a.n ≤ 256 = omega (arith, mul-le-mul p p) in
    sym (length-take-le (a.n * a.n) a.w.now (omega (arith, q)))

pub factor_into-r-requires : goal.factor_into-r-requires
factor_into-r-requires c = let a = c.args in
    let p : a.n ≤ 16 = omega arith in
    let q : a.n * a.n ≤ 256 = omega (arith, mul-le-mul p p) in
    (p, omega arith, omega arith, length-take-le (a.n * a.n) a.w.now (omega (arith, q)))

pub clear-requires : goal.clear-requires
clear-requires c = omega arith

pub shape_of-out : goal.shape_of-out
shape_of-out c = omega arith

pub shape_of-w : goal.shape_of-w
shape_of-w c = omega arith

pub shape_of-iw : goal.shape_of-iw
shape_of-iw c = omega arith

pub returns : goal.returns
returns c = let a = c.args in
    let p : a.n ≤ 16 = omega arith in
    let q : a.n * a.n ≤ 256 = omega (arith, mul-le-mul p p) in
    let f = c.factor_into-r in
    let k = c.clear.ensures in (
      f.ensures,
      record {
        floats = k.floats ∙ cleared-behind +0 8192 (a.n * a.n) f.new.l a.w.now f.auto.l (omega (arith, q)) (omega (arith, q));
        words = k.words;
      },
    )
