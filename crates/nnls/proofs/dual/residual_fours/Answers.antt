-- `residual_fours`: after q turns 4 q entries stand.
use mathlib.Core.Path.{◌≡◌, refl, ◌∙◌, subst}
use Prim.Native.Nat.{ℕ, ◌+◌, ◌*◌, ◌/◌}
use native.Mathlib.Omega.{arith}
use lib.Ieee.{nan}
use Rattle.workspace.specs.Readings.{Block}
use Rattle.workspace.proofs.Writes.{written_none}
use Rattle.nnls.specs.inner.Dual.{residual_at}
use Rattle.nnls.proofs.Fours.{residual-same, fours-more}
use Rattle.nnls.proofs.dual.residual_fours.Goals as goal

pub loop-q-init : goal.loop-q-init
loop-q-init c = let z : 0 ≡ 0 * 4 = omega arith in
    (refl, omega arith, refl, subst (λ (t : ℕ). Block 1404 t (residual_at c.args.n c.args.w.now) c.args.w.now c.args.w.now) z (written_none nan _ _ _))

pub overflow_mul-q : goal.overflow_mul-q
overflow_mul-q c = omega arith

pub residual_four-s-requires : goal.residual_four-s-requires
residual_four-s-requires c = omega arith

pub overflow_mul-q-in-loop-q : goal.overflow_mul-q-in-loop-q
overflow_mul-q-in-loop-q c = omega arith

pub overflow_add-q : goal.overflow_add-q
overflow_add-q c = omega arith

pub put_four-requires : goal.put_four-requires
put_four-requires c = omega arith

pub overflow_step-q : goal.overflow_step-q
overflow_step-q c = omega arith

pub loop-q-smaller : goal.loop-q-smaller
loop-q-smaller c = omega arith

pub loop-q-preserved : goal.loop-q-preserved
loop-q-preserved c = let a = c.args in
    let l = c.loop-q in
    let r = l.invariant.3 in
    let z : l.q * 4 + 4 ≡ (l.q + 1) * 4 = omega arith in (
      l.invariant.0,
      omega arith,
      c.put_four.auto.w ∙ l.invariant.2,
      subst (λ (t : ℕ). Block 1404 t (residual_at a.n a.w.now) a.w.now c.put_four.new.w) z
          (fours-more 1404 (l.q * 4) (residual_at a.n a.w.now) (residual_at a.n l.w) a.w.now l.w c.put_four.new.w c.residual_four-s.result
          (omega arith) a.m (omega arith) (residual-same a.m a.n a.w.now l.w (omega arith) (omega arith) (l.q * 4) (omega arith) r) c.residual_four-s.ensures c.put_four.ensures r),
    )

pub shape_of-w : goal.shape_of-w
shape_of-w c = c.loop-q.invariant.2

pub returns : goal.returns
returns c = let a = c.args in
    let l = c.loop-q in
    let z : l.q * 4 ≡ a.m / 4 * 4 = omega arith in
    subst (λ (t : ℕ). Block 1404 t (residual_at a.n a.w.now) a.w.now l.w) z l.invariant.3
