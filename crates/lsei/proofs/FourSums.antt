-- The dual's residual, four entries at a time.
use mathlib.Core.Path.{◌≡◌, ap, ap₂}
use mathlib.Core.List.{List}
use Prim.Native.Nat.{ℕ, ◌+◌, ◌*◌, ◌≤◌, ◌<◌}
use native.Mathlib.Omega.{arith}
use lib.Ieee.{Float}
use Rattle.numbers.specs.Numbers.{at, Σ, ◌⊖◌, ◌⊗◌}
use Rattle.numbers.proofs.Sums.{Σ-same}
use Rattle.workspace.specs.Readings.{Block}
use Rattle.nnls.specs.inner.Dual.{sum_at, four_of}
use Rattle.householder.specs.declared.Four.{Four}
use Rattle.lsei.specs.inner.Work.{residual_in}

abbrev made : (a b c d : Float) → Four
made a b c d = record { a = a; b = b; c = c; d = d }

-- the differences of four sums and the right side are four entries
pub residual-four-is : (m j : ℕ) (w : List Float) (s : Four) → s ≡ four_of (sum_at m 1206 w) j
    → made (s.a ⊖ at w (1188 + j)) (s.b ⊖ at w (1188 + (j + 1))) (s.c ⊖ at w (1188 + (j + 2))) (s.d ⊖ at w (1188 + (j + 3))) ≡ four_of (λ i. residual_in m i w) j
unfolding sum_at
residual-four-is m j w s e =
    let one : (i : ℕ) → Σ m (λ t. at w (i + t * 18) ⊗ at w (1206 + t)) ≡ Σ m (λ t. at w (i + t * 18) ⊗ at w (1206 + t * 1)) =
    λ i. Σ-same m _ _ (λ t h. ap (λ (x : ℕ). at w (i + t * 18) ⊗ at w x) (let y : 1206 + t ≡ 1206 + t * 1 = omega arith in y)) in
    rw (e, one j, one (j + 1), one (j + 2), one (j + 3))

-- what is written leaves the entries to come as they are
pub residual-same : (c m : ℕ) (v w : List Float) → c ≤ 18 → m ≤ 66 → (k : ℕ) → k ≤ c → Block 1272 k (λ j. residual_in m j v) v w → (i : ℕ) → i < c → residual_in m i w ≡ residual_in m i v
residual-same c m v w c18 m66 k l r i h =
    ap₂ ◌⊖◌ (Σ-same m _ _ (λ t ht. ap₂ ◌⊗◌ (r.before (i + t * 18) (omega arith)) (r.before (1206 + t * 1) (omega arith)))) (r.before (1188 + i) (omega arith))
