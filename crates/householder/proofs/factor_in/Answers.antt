-- `factor_in`: what is still to do at step k gives the factors.
use mathlib.Core.Path.{◌≡◌, refl, sym, ap, ◌∙◌}
use mathlib.Core.List.{List}
use Prim.Native.Nat.{ℕ, ◌+◌, ◌*◌, ◌-◌, ◌≤◌, ◌<◌, min}
use lib.Ieee.{Float}
use Rattle.numbers.specs.Numbers.{+0}
use native.Mathlib.Omega.{arith}
use Rattle.workspace.specs.Readings.{mat, Block}
use Rattle.workspace.proofs.Readings.{lit-+0, mat-same}
use Rattle.householder.specs.Qr.{start, factor, advance}
use Rattle.householder.specs.inner.Work.{held}
use Rattle.householder.proofs.Held.{kept-held, kept-unmade}
use Rattle.householder.proofs.Steps.{unmade-start, start_is, pivot-index, factor-start, factor-stop, factor-again, factor-end}
use Rattle.householder.proofs.factor_in.Goals as goal

-- the matrix is the entry's: the blanks stand before it
matrix : (m n c : ℕ) (w w₁ w₂ : List Float) → m ≤ 18 → c ≤ 18 → Block 0 (c * 18) (λ _. +0) w w₁ → Block 324 c (λ _. +0) w₁ w₂
    → mat 426 m n w₂ ≡ mat 426 m n w
matrix m n c w w₁ w₂ m18 c18 b₁ b₂ =
    mat-same 426 m n w w₂
    (λ i j hi hj. b₂.after (426 + j * 18 + i) (omega arith) ∙ b₁.after (426 + j * 18 + i) (omega arith))

pub overflow_mul-c : goal.overflow_mul-c
overflow_mul-c c = omega arith

pub blank-requires : goal.blank-requires
blank-requires c = omega arith

pub blank-requires-2 : goal.blank-requires-2
blank-requires-2 c = omega arith

pub count-requires : goal.count-requires
count-requires c = omega arith

pub loop-k-init : goal.loop-k-init
loop-k-init c = let a = c.args in
    let b₁ = c.blank in
    let b₂ = c.blank-2 in
    let i = c.count in
    let e = c.min-c.ensures in (
      e,
      refl,
      refl,
      rw e
          (factor-start a.m a.n (mat 426 a.m a.n b₂.new.w) _ _ lit-+0
          (start_is a.m a.n c.min-c.result a.w.now b₁.new.w b₂.new.w c.requires.0 e b₁.ensures b₂.ensures i.new.iw i.ensures ∙ ap (start a.m a.n) (sym (matrix c.args.m c.args.n c.min-c.result c.args.w.now c.blank.new.w c.blank-2.new.w (omega arith) (omega (arith, c.min-c.ensures)) c.blank.ensures c.blank-2.ensures)))),
      unmade-start a.m a.n c.min-c.result a.w.now b₁.new.w b₂.new.w c.requires.0 e b₁.ensures b₂.ensures,
    )

pub pivot-top-requires : goal.pivot-top-requires
pivot-top-requires c = omega arith

pub tolerance_of-tol-requires : goal.tolerance_of-tol-requires
tolerance_of-tol-requires c = omega arith

pub shape_of-w-then-largest-tol : goal.shape_of-w-then-largest-tol
shape_of-w-then-largest-tol c = omega arith

pub shape_of-iw-then-largest-tol : goal.shape_of-iw-then-largest-tol
shape_of-iw-then-largest-tol c = omega arith

pub returns-then-largest-tol : goal.returns-then-largest-tol
returns-then-largest-tol c = let p = c.pivot-top in
    let t = c.tolerance_of-tol in
    let l = c.loop-k in
    let a = c.args in
    kept-held a.m a.n l.k l.w p.new.w l.iw c.requires.0 p.ensures.1
    ∙ sym
    (factor-stop a.m a.n c.min-c.result l.k (held a.m a.n l.k l.w l.iw) l.tol t.result p.result
    c.loop-k-test.true p.ensures.0 t.ensures (factor a.m a.n (mat 426 a.m a.n a.w.now)) c.if-largest-tol.true
    (ap (factor a.m a.n) (sym (matrix c.args.m c.args.n c.min-c.result c.args.w.now c.blank.new.w c.blank-2.new.w (omega arith) (omega (arith, c.min-c.ensures)) c.blank.ensures c.blank-2.ensures)) ∙ l.invariant.3))

pub step-requires : goal.step-requires
step-requires c = let p = c.pivot-top in
    let l = c.loop-k in
    let a = c.args in
    let kn : l.k < a.n = omega arith in
    (c.requires.0, omega arith, kn, rw p.ensures.0 (pivot-index a.m a.n l.k (mat 426 a.m a.n l.w) (a.n - l.k) kn (omega (arith, kn))), omega (arith, p.auto.w, l.invariant.1, c.blank-2.auto.w, c.blank.auto.w, c.requires.2), omega (arith, l.invariant.2, c.count.auto.iw, c.requires.3), kept-unmade a.n l.k (min a.m a.n) l.w p.new.w (omega arith) p.ensures.1 l.invariant.4)

pub loop-k-preserved : goal.loop-k-preserved
loop-k-preserved c = let t = c.tolerance_of-tol in
    let p = c.pivot-top in
    let l = c.loop-k in
    let a = c.args in
    let n = c.step in (
      l.invariant.0,
      n.auto.w ∙ p.auto.w ∙ l.invariant.1,
      n.auto.iw ∙ l.invariant.2,
      factor-again a.m a.n c.min-c.result l.k (held a.m a.n l.k l.w l.iw) l.tol t.result p.result
          c.loop-k-test.true p.ensures.0 t.ensures _ _ c.if-largest-tol.false
          (n.ensures.0 ∙ ap (advance a.m a.n l.k p.result) (kept-held a.m a.n l.k l.w p.new.w l.iw c.requires.0 p.ensures.1)) l.invariant.3,
      n.ensures.1,
    )

pub shape_of-w : goal.shape_of-w
shape_of-w c = omega arith

pub shape_of-iw : goal.shape_of-iw
shape_of-iw c = omega arith

pub returns : goal.returns
returns c = let l = c.loop-k in
    let a = c.args in
    let e : c.min-c.result ≡ l.k = omega arith in
    ap (λ (k : ℕ). held a.m a.n k l.w l.iw) e
    ∙ sym
    (factor-end a.m a.n c.min-c.result l.k (held a.m a.n l.k l.w l.iw) l.tol (factor a.m a.n (mat 426 a.m a.n a.w.now))
    c.loop-k-test.false (ap (factor a.m a.n) (sym (matrix c.args.m c.args.n c.min-c.result c.args.w.now c.blank.new.w c.blank-2.new.w (omega arith) (omega (arith, c.min-c.ensures)) c.blank.ensures c.blank-2.ensures)) ∙ l.invariant.3))
