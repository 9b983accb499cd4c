-- `residual_fours`: after q turns 4 q entries stand.
use mathlib.Core.Path.{◌≡◌, refl, ◌∙◌, subst}
use Prim.Native.Nat.{ℕ, ◌+◌, ◌*◌, ◌/◌}
use native.Mathlib.Omega.{arith}
use lib.Ieee.{nan}
use Rattle.workspace.specs.Readings.{Block}
use Rattle.workspace.proofs.Writes.{written_none}
use Rattle.nnls.proofs.Fours.{fours-more}
use Rattle.lsei_nullspace.specs.inner.Work.{residual_in}
use Rattle.lsei_nullspace.proofs.FourSums.{residual-same}
use Rattle.lsei_nullspace.proofs.residual_fours.Goals as goal

pub loop-q-init : goal.loop-q-init
loop-q-init c = let a = c.args in
    let z : 0 ≡ 0 * 4 = omega arith in
    (refl, omega arith, refl, subst (λ (t : ℕ). Block 360 t (λ j. residual_in a.n j a.w.now) a.w.now a.w.now) z (written_none nan _ _ _))

pub overflow_mul-q : goal.overflow_mul-q
overflow_mul-q c = omega arith

pub residual_four-s-requires : goal.residual_four-s-requires
residual_four-s-requires c = omega arith

pub overflow_mul-q-in-loop-q : goal.overflow_mul-q-in-loop-q
overflow_mul-q-in-loop-q c = omega arith

pub overflow_add-q : goal.overflow_add-q
overflow_add-q c = omega arith

pub put_four-requires : goal.put_four-requires
put_four-requires c = omega arith

pub overflow_step-q : goal.overflow_step-q
overflow_step-q c = omega arith

pub loop-q-smaller : goal.loop-q-smaller
loop-q-smaller c = omega arith

pub loop-q-preserved : goal.loop-q-preserved
loop-q-preserved c = let a = c.args in
    let l = c.loop-q in
    let r = l.invariant.3 in
    let k = c.put_four in
    let f = c.residual_four-s in
    let z : l.q * 4 + 4 ≡ (l.q + 1) * 4 = omega arith in (
      l.invariant.0,
      omega arith,
      k.auto.w ∙ l.invariant.2,
      subst (λ (t : ℕ). Block 360 t (λ j. residual_in a.n j a.w.now) a.w.now k.new.w) z
          (fours-more 360 (l.q * 4) (λ j. residual_in a.n j a.w.now) (λ j. residual_in a.n j l.w) a.w.now l.w k.new.w f.result
          (omega arith) a.me (omega arith) (residual-same a.n a.me a.w.now l.w (omega arith) (omega arith) (l.q * 4) (omega arith) r) f.ensures k.ensures r),
    )

pub shape_of-w : goal.shape_of-w
shape_of-w c = c.loop-q.invariant.2

pub returns : goal.returns
returns c = let a = c.args in
    let l = c.loop-q in
    let z : l.q * 4 ≡ a.me / 4 * 4 = omega arith in
    subst (λ (t : ℕ). Block 360 t (λ j. residual_in a.n j a.w.now) a.w.now l.w) z l.invariant.3
