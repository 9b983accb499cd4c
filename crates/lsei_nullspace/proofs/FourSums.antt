-- The residual and the slopes, four entries at a time.
use mathlib.Core.Path.{◌≡◌, ap, ap₂, ◌∙◌}
use mathlib.Core.List.{List}
use Prim.Native.Nat.{ℕ, ◌+◌, ◌*◌, ◌≤◌, ◌<◌}
use native.Mathlib.Omega.{arith}
use lib.Ieee.{Float}
use Rattle.numbers.specs.Numbers.{at, Σ, ◌⊖◌, ◌⊗◌}
use Rattle.numbers.proofs.Sums.{Σ-same}
use Rattle.workspace.specs.Readings.{Block}
use Rattle.nnls.specs.inner.Dual.{sum_at, row_sum, four_of, four_rows}
use Rattle.householder.specs.declared.Four.{Four}
use Rattle.lsei_nullspace.specs.inner.Work.{residual_in, slope_in}

abbrev made : (a b c d : Float) → Four
made a b c d = record { a = a; b = b; c = c; d = d }

-- the differences of four sums and f are four entries
pub residual-four-is : (n i : ℕ) (w : List Float) (s : Four) → s ≡ four_rows (row_sum n 714 w) (732 + i * 18)
    → made (s.a ⊖ at w (1038 + i)) (s.b ⊖ at w (1038 + (i + 1))) (s.c ⊖ at w (1038 + (i + 2))) (s.d ⊖ at w (1038 + (i + 3))) ≡ four_of (λ k. residual_in n k w) i
unfolding row_sum
residual-four-is n i w s e =
    let one : (x k : ℕ) → x ≡ 732 + k * 18 → Σ n (λ j. at w (x + j) ⊗ at w (714 + j)) ≡ Σ n (λ j. at w (732 + k * 18 + j) ⊗ at w (714 + j)) =
    λ x k h. ap (λ (y : ℕ). Σ n (λ j. at w (y + j) ⊗ at w (714 + j))) h in
    rw (e, one (732 + i * 18 + 18) (i + 1) (omega arith), one (732 + i * 18 + 36) (i + 2) (omega arith), one (732 + i * 18 + 54) (i + 3) (omega arith))

-- what is written leaves the entries to come as they are
pub residual-same : (n me : ℕ) (v w : List Float) → n ≤ 17 → me ≤ 17 → (k : ℕ) → k ≤ me → Block 360 k (λ i. residual_in n i v) v w → (i : ℕ) → i < me → residual_in n i w ≡ residual_in n i v
residual-same n me v w n17 e17 k l r i h =
    ap₂ ◌⊖◌ (Σ-same n _ _ (λ j hj. ap₂ ◌⊗◌ (r.after (732 + i * 18 + j) (omega arith)) (r.after (714 + j) (omega arith)))) (r.after (1038 + i) (omega arith))

-- the differences of four sums and four sums are four entries
pub slope-four-is : (me mg j : ℕ) (w : List Float) (s t : Four) → s ≡ four_of (sum_at me 360 w) (732 + j) → t ≡ four_of (sum_at mg 4332 w) (1056 + j)
    → made (s.a ⊖ t.a) (s.b ⊖ t.b) (s.c ⊖ t.c) (s.d ⊖ t.d) ≡ four_of (λ i. slope_in me mg i w) j
unfolding sum_at
slope-four-is me mg j w s t es et =
    let one : (m o q x i : ℕ) → x ≡ o + i → Σ m (λ k. at w (x + k * 18) ⊗ at w (q + k)) ≡ Σ m (λ k. at w (o + i + k * 18) ⊗ at w (q + k * 1)) =
    λ m o q x i e. Σ-same m _ _ (λ k h. ap₂ (λ (y z : ℕ). at w y ⊗ at w z) (let u : x + k * 18 ≡ o + i + k * 18 = omega arith in u) (let u : q + k ≡ q + k * 1 = omega arith in u)) in
    let each : (x y i : ℕ) → x ≡ 732 + i → y ≡ 1056 + i → Σ me (λ k. at w (x + k * 18) ⊗ at w (360 + k)) ⊖ Σ mg (λ k. at w (y + k * 18) ⊗ at w (4332 + k)) ≡ slope_in me mg i w =
    λ x y i d e. ap₂ ◌⊖◌ (one me 732 360 x i d) (one mg 1056 4332 y i e) in
    rw (
      es,
      et,
      each (732 + j) (1056 + j) j (omega arith) (omega arith),
      each (732 + j + 1) (1056 + j + 1) (j + 1) (omega arith) (omega arith),
      each (732 + j + 2) (1056 + j + 2) (j + 2) (omega arith) (omega arith),
      each (732 + j + 3) (1056 + j + 3) (j + 3) (omega arith) (omega arith),
    )

pub slope-same : (n me mg : ℕ) (v w : List Float) → n ≤ 17 → me ≤ 17 → mg ≤ 66 → (k : ℕ) → k ≤ n → Block 342 k (λ j. slope_in me mg j v) v w → (i : ℕ) → i < n → slope_in me mg i w ≡ slope_in me mg i v
slope-same n me mg v w n17 e17 g66 k l r i h =
    ap₂ ◌⊖◌ (Σ-same me _ _ (λ t ht. ap₂ ◌⊗◌ (r.after (732 + i + t * 18) (omega arith)) (r.after (360 + t * 1) (omega arith))))
    (Σ-same mg _ _ (λ t ht. ap₂ ◌⊗◌ (r.after (1056 + i + t * 18) (omega arith)) (r.after (4332 + t * 1) (omega arith))))
