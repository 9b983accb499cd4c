-- Cholesky reads the lower triangle.
use mathlib.Core.Path.{◌≡◌, refl, ap, ◌∙◌}
use mathlib.Core.List.{List}
use Prim.Native.Nat.{ℕ, zero, suc, ◌+◌, ◌*◌, ◌<◌, ◌≤◌}
use native.Mathlib.Omega.{arith}
use lib.ListN.{set}
use lib.Ieee.{Float}
use Rattle.numbers.specs.Numbers.{Σ, entry, SameLower, ◌⊖◌, ◌⊗◌, ◌⊘◌}
use Rattle.workspace.specs.Tables.{Answer, done, refused}
use Rattle.hessian.specs.Hessian.{remainder, with_row, is_pivot, with_pivot, next_row, first_rows, cholesky}
use Rattle.hessian_call.specs.Claims.{ReadsLower}

module _ (n : ℕ) (b b' : List Float) (h : SameLower n b b') where
  remainder-same : (l : List Float) (i j : ℕ) → i < n → j ≤ i → remainder n b l i j ≡ remainder n b' l i j
  unfolding remainder
  remainder-same l i j p q = ap (λ (x : Float). x ⊖ Σ j (λ k. entry n l i k ⊗ entry n l j k)) (h i j p q)

  row_same : (l : List Float) (i j : ℕ) → i < n → j ≤ i → with_row n b i l j ≡ with_row n b' i l j
  unfolding with_row
  row_same l i zero p q = refl
  row_same l i (suc j) p q =
      let w = with_row n b' i l j in
      ap (λ (v : List Float). set v (i * n + j) (remainder n b v i j ⊘ entry n v j j)) (row_same l i j p (omega arith))
      ∙ ap (λ (x : Float). set w (i * n + j) (x ⊘ entry n w j j)) (remainder-same w i j p (omega arith))

  next-same : (i : ℕ) → i < n → (a : Answer (List Float)) → next_row n b i a ≡ next_row n b' i a
  unfolding next_row
  next-same i p (refused k) = refl
  next-same i p (done l) =
      let w = with_row n b' i l i in
      ap (λ (v : List Float). with_pivot (is_pivot (remainder n b v i i)) n v i (remainder n b v i i)) (row_same l i i p (omega arith))
      ∙ ap (λ (x : Float). with_pivot (is_pivot x) n w i x) (remainder-same w i i p (omega arith))

  first-same : (i : ℕ) → i ≤ n → first_rows n b i ≡ first_rows n b' i
  unfolding first_rows
  first-same zero p = refl
  first-same (suc i) p = next-same i p (first_rows n b i) ∙ ap (next_row n b' i) (first-same i (omega arith))

pub reads-lower : ReadsLower
unfolding cholesky
reads-lower n b b' h = first-same n b b' h n (omega arith)
