-- What is shown of the pivot and of the factors. Definitions only.
use Rattle.std.specs.Prelude.{◌≡◌, true, false, ◌⊎◌, List, ℕ, ◌+◌, ◌*◌, ◌<◌, min, length, Float}
use Rattle.std.specs.Float.{nan}
use Rattle.std.specs.Float.Ieee.{lt}
use Rattle.numbers.specs.Numbers.{nth, -1}
use Rattle.householder.specs.Qr.{Factors, column_norm, pivot, factor}
use Rattle.householder.specs.declared.Candidate.{Candidate}

-- Of the c columns from k on, no norm is above the candidate's, and a column before it has a smaller norm or a NaN: ties keep the first, and NaN never wins.
-- It is one of the columns with its norm; or it is (k, -1) still, and then no norm is above -1.
pub record FirstLargest (m n k : ℕ) (r : List Float) (c : ℕ) (best : Candidate) : Type 0 where
  pub number : best.norm ≡ nan → ⊥
  pub one_of : ((i : ℕ) × (i < c) × (best.index ≡ k + i) × (best.norm ≡ column_norm m n k r (k + i))) ⊎ ((best.index ≡ k) × (best.norm ≡ -1))
  pub largest : (j : ℕ) → j < c → lt best.norm (column_norm m n k r (k + j)) ≡ false
  pub first : (j : ℕ) → j < c → k + j < best.index → (lt (column_norm m n k r (k + j)) best.norm ≡ true) ⊎ (column_norm m n k r (k + j) ≡ nan)

-- js holds each of 0, 1, .., n - 1 once
pub record Permutation (n : ℕ) (js : List ℕ) : Type 0 where
  pub size : length js ≡ n
  pub below : (i : ℕ) → i < n → nth js i < n
  pub distinct : (i j : ℕ) → i < n → j < n → nth js i ≡ nth js j → i ≡ j

-- the factors of an m by n matrix have its sizes, and their columns are its columns in another order
pub record SoundFactors (m n : ℕ) (f : Factors) : Type 0 where
  pub r : length f.r ≡ m * n
  pub perm : Permutation n f.perm
  pub u : length f.u ≡ min m n * m
  pub b : length f.b ≡ min m n

-- ---- of the definition

abbrev pub PivotFirst : Type 0
PivotFirst = (m n k : ℕ) (r : List Float) (c : ℕ) → FirstLargest m n k r c (pivot m n k r c)

abbrev pub FactorSound : Type 0
FactorSound = (m n : ℕ) (a : List Float) → length a ≡ m * n → SoundFactors m n (factor m n a)
