-- The residual and the dual, entry by entry, in the part of nonnegative least squares. Definitions only.
use Rattle.std.specs.Prelude.{List, ℕ, ◌+◌, ◌*◌, set, Float}
use Rattle.numbers.specs.Numbers.{Σ, at, ◌⊖◌, ◌⊗◌}
use Rattle.householder.specs.declared.Four.{Four}
use Rattle.nnls_passive.specs.inner.Places.{NNLS_RESIDUAL, NNLS_SIDE, NNLS_X}

-- entry i of b - A x, and entry j of A' times the residual that stands there
unfoldable pub residual_at : (n : ℕ) (w : List Float) (i : ℕ) → Float
residual_at n w i = at w (NNLS_SIDE + i) ⊖ Σ n (λ j. at w (i + j * 18) ⊗ at w (NNLS_X + j))

unfoldable pub dual_at : (m : ℕ) (w : List Float) (j : ℕ) → Float
dual_at m w j = Σ m (λ i. at w (j * 18 + i) ⊗ at w (NNLS_RESIDUAL + i))

-- the sum of the products of n numbers, 18 apart from i on, with the n from q on
unfoldable pub sum_at : (n q : ℕ) (w : List Float) (i : ℕ) → Float
sum_at n q w i = Σ n (λ j. at w (i + j * 18) ⊗ at w (q + j))

-- and of n numbers from p on
unfoldable pub row_sum : (n q : ℕ) (w : List Float) (p : ℕ) → Float
row_sum n q w p = Σ n (λ j. at w (p + j) ⊗ at w (q + j))

-- four entries of a rule, from i on
abbrev pub four_of : (ℕ → Float) → ℕ → Four
four_of f i = record { a = f i; b = f (i + 1); c = f (i + 2); d = f (i + 3) }

-- and of one on rows that stand 18 apart, from p on
abbrev pub four_rows : (ℕ → Float) → ℕ → Four
four_rows f p = record { a = f p; b = f (p + 18); c = f (p + 36); d = f (p + 54) }

-- four entries put in their places, from o on
abbrev pub set_four : ℕ → Four → List Float → List Float
set_four o s w = set (set (set (set w o s.a) (o + 1) s.b) (o + 2) s.c) (o + 3) s.d
