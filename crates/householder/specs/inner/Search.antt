-- The products that the kernel sums four at a time, and what its search for the pivot carries from column to column, so that it takes one root for all of them but for near ties.
-- No promise rests on it: the search is `pivot`.
-- Definitions only.
use Rattle.std.specs.Prelude.{◌≡◌, true, false, cond, List, ℕ, ◌+◌, ◌*◌, negsuc, Float, Option, None, Some, ⊤}
use Rattle.std.specs.Float.{binary64, fin}
use Rattle.std.specs.Float.Ieee.{lt, le, eq, of_bits}
use Rattle.numbers.specs.Numbers.{+0, -1, ◌⊗◌, Σ, at}
use Rattle.numbers.specs.Root.{sqrt_of}
use Rattle.numbers.specs.Ordered.{gap}
use Rattle.norms.specs.inner.Sums.{most_sum}
use Rattle.workspace.specs.Readings.{mat}
use Rattle.householder.specs.Qr.{pivot, better, column_norm}
use Rattle.householder.specs.declared.Candidate.{Candidate}
use Rattle.householder.specs.declared.search.Lead.{Lead}
use Rattle.householder.specs.declared.search.Lead.TheVariants.{Squares, Norm}
use Rattle.householder.specs.declared.Four.{Four}
use Rattle.householder.specs.inner.Places.{QR_MATRIX}

-- the sum of the products of the n numbers from p on with those from q on
unfoldable pub product : (n p q : ℕ) → List Float → Float
product n p q w = Σ n (λ t. at w (p + t) ⊗ at w (q + t))

-- and, for the same rows of the three columns behind q, with those s, 2 s and 3 s behind p
abbrev pub four : (n p s q : ℕ) → List Float → Four
four n p s q w = record { a = product n p q w; b = product n (p + s) (q + 18) w; c = product n (p + s * 2) (q + 36) w; d = product n (p + s * 3) (q + 54) w }

-- none of four numbers is zero
pub record NonzeroFour (s : Four) : Type 0 where
  pub a : eq s.a (of_bits binary64 0) ≡ false
  pub b : eq s.b (of_bits binary64 0) ≡ false
  pub c : eq s.c (of_bits binary64 0) ≡ false
  pub d : eq s.d (of_bits binary64 0) ≡ false

-- four sums that decide their columns' norms, from the least sum f on
pub record SureFour (f : Float) (s : Four) : Type 0 where
  pub a : (le f s.a ≡ true) × (le s.a most_sum ≡ true)
  pub b : (le f s.b ≡ true) × (le s.b most_sum ≡ true)
  pub c : (le f s.c ≡ true) × (le s.c most_sum ≡ true)
  pub d : (le f s.d ≡ true) × (le s.d most_sum ≡ true)

-- the sum of the squares of the n numbers from p on
abbrev pub squares : (n p : ℕ) → List Float → Float
squares n p w = product n p p w

-- the candidate: its norm is the root of the lead's sum of squares, or what the lead holds; and of column k -1 while there is no lead
abbrev pub shown : ℕ → Option Lead → Candidate
shown k None = record { index = k; norm = -1 }
shown k (Some (Squares i s)) = record { index = i; norm = sqrt_of s }
shown k (Some (Norm c)) = c

-- Column j with the sum of squares s, whose root is its norm, against the lead. A sum that is not above the lead's has no larger root, one that is clearly above has one, and between the two
-- the roots decide; they do, too, where the lead's is taken already. The first column leads that has a root at all.
abbrev pub taken : ℕ → Float → Option Lead
taken j s = Some (Squares j s)

abbrev pub weighed : Option Lead → ℕ → Float → Option Lead
weighed None j s = cond (le +0 s) (taken j s) None
weighed (Some (Norm c)) j s = cond (lt c.norm (sqrt_of s)) (taken j s) (Some (Norm c))
weighed (Some (Squares i v)) j s =
    let old = taken i v in
    let near-tie = cond (lt (sqrt_of v) (sqrt_of s)) (taken j s) old in
    let above = cond (lt (v ⊗ gap) s) (taken j s) near-tie in
    cond (lt v s) above old

-- column j with the norm y, against the lead of those from k on
abbrev pub compared : ℕ → Option Lead → ℕ → Float → Option Lead
compared k old j y = cond (lt (shown k old).norm y) (Some (Norm (record { index = j; norm = y }))) old

-- a lead whose root is not taken has one
abbrev pub Rooted : Option Lead → Type 0
Rooted None = ⊤
Rooted (Some (Squares i v)) = lt -1 (sqrt_of v) ≡ true
Rooted (Some (Norm c)) = ⊤

-- 2 ^ -60: a lead whose sum is that at least is ahead of a column whose sum is at most 2 ^ -80, whatever vanished in it
abbrev pub clear : Float
clear = fin false 1 (negsuc 59)

abbrev pub IsAhead : Option Lead → Type 0
IsAhead None = ⊥
IsAhead (Some (Squares i v)) = le clear v ≡ true
IsAhead (Some (Norm c)) = ⊥

-- column j of the kernel's matrix against the lead
abbrev pub Judged : (m n k j : ℕ) → List Float → Option Lead → Option Lead → Type 0
Judged m n k j w old new = Rooted old → Rooted new × (shown k new ≡ better (shown k old) (record { index = j; norm = column_norm m n k (mat QR_MATRIX m n w) j }))

-- after t columns from k on the lead is the definition's candidate
pub record Leads (m n k t : ℕ) (w : List Float) (l : Option Lead) : Type 0 where
  pub rooted : Rooted l
  pub best : shown k l ≡ pivot m n k (mat QR_MATRIX m n w) t

-- columns j to j + 3 against the lead
abbrev pub JudgedFour : (m n k j : ℕ) → List Float → Option Lead → Option Lead → Type 0
JudgedFour m n k j w old new = (q : ℕ) → j ≡ k + q * 4 → Leads m n k (q * 4) w old → Leads m n k ((q + 1) * 4) w new
