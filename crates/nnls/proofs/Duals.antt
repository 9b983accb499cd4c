-- The residual and the dual that stand in the workspace are those at x.
use mathlib.Core.Path.{◌≡◌, refl, sym, ap, ap₂, ◌∙◌}
use mathlib.Core.List.{List}
use Prim.Native.Nat.{ℕ, ◌+◌, ◌*◌, ◌≤◌, ◌<◌}
use native.Mathlib.Omega.{arith}
use lib.ListN.{replicate}
use lib.Ieee.{Float, nan}
use Rattle.numbers.specs.Numbers.{at, ◌⊖◌, ◌⊗◌}
use Rattle.numbers.proofs.Lists.{get_d-tab}
use Rattle.workspace.specs.Readings.{vec, mat, nums, Block, Span}
use Rattle.workspace.proofs.Readings.{vec-is, at-vec, entry-mat}
use Rattle.numbers.proofs.Sums.{Σ-same}
use Rattle.nnls.specs.Nnls.{residual, dual_of}
use Rattle.nnls.specs.inner.Dual.{residual_at, dual_at}
use Rattle.nnls.specs.inner.State.{State, read, put}
use Rattle.nnls.proofs.States.{states, same-a, same-b, same-vec, read-unrejected}

module _ (m n : ℕ) (w w₁ w₂ : List Float) (l : List ℕ) (m18 : m ≤ 18) (n66 : n ≤ 66)
    (R : Block 1404 m (residual_at n w) w w₁) (D : Block 1338 n (dual_at m w₁) w₁ w₂) where
  residual-is : (i : ℕ) → i < m → at w₁ (1404 + i) ≡ at (residual m n (mat 0 m n w) (vec 1188 m w) (vec 1206 n w)) i
  unfolding residual residual_at
  residual-is i hi =
      R.inside i hi
      ∙ ap₂ ◌⊖◌ (sym (at-vec 1188 m w i hi))
      (Σ-same n _ _
      (λ j hj.
      ap₂ ◌⊗◌ (ap (λ (x : ℕ). at w x) (omega arith) ∙ sym (entry-mat 0 m n w i j hi hj))
      (sym (at-vec 1206 n w j hj))))
      ∙ sym (get_d-tab m _ nan i hi)

  dual-is : vec 1338 n w₂ ≡ dual_of m n (mat 0 m n w) (vec 1188 m w) (vec 1206 n w)
  unfolding dual_of dual_at
  dual-is =
      vec-is 1338 n w₂ _
      (λ j hj.
      D.inside j hj
      ∙ Σ-same m _ _
      (λ i hi.
      ap₂ ◌⊗◌
      (R.before (j * 18 + i) (omega arith) ∙ ap (λ (x : ℕ). at w x) (omega arith) ∙ sym (entry-mat 0 m n w i j hi hj))
      (residual-is i hi)))

  read-dual : read m n w₂ l ≡ put (vec 1206 n w) (vec 1272 n w) (dual_of m n (mat 0 m n w) (vec 1188 m w) (vec 1206 n w)) (nums 0 n l) (nums 66 n l) (read m n w l)
  read-dual =
      let low : (x : ℕ) → x < 1338 → at w₂ x ≡ at w x = λ x a. D.before x a ∙ R.before x (omega arith) in
      states (same-a m n w w₂ m18 n66 (λ x a. low x (omega arith))) (same-b m n w w₂ m18 n66 (λ x a b. low x (omega arith)))
      (same-vec m n w w₂ m18 n66 1206 (λ x a b. low x (omega arith))) (same-vec m n w w₂ m18 n66 1272 (λ x a b. low x (omega arith))) dual-is refl refl

  -- with the rejected marks cleared, a pass begins
  pub read-passing : (l' : List ℕ) → Span 66 n (λ _. 0) l l'
      → read m n w₂ l' ≡ put (vec 1206 n w) (vec 1272 n w) (dual_of m n (mat 0 m n w) (vec 1188 m w) (vec 1206 n w)) (nums 0 n l) (replicate n 0) (read m n w l)
  read-passing l' h =
      read-unrejected m n w₂ l l' n66 h ∙ ap (λ (q : State). put q.x q.z q.dual q.passive (replicate n 0) q) read-dual
