-- The factors that stand in the kernel's part of the workspace, and what its functions do to that part. Definitions only.
use Rattle.std.specs.Prelude.{◌≡◌, cond, List, ℕ, ◌+◌, ◌*◌, ◌<◌, ◌≤◌, min, ltb, eqb, Float}
use Rattle.numbers.specs.Numbers.{+0, ◌⊕◌, ◌⊖◌, ◌⊗◌, at, scatter}
use Rattle.workspace.specs.Readings.{vec, mat, stack, nums}
use Rattle.householder.specs.Qr.{Factors, image, signed, apply_qt, apply_q, solve_r, solve_rt}
use Rattle.householder.specs.declared.Four.{Four}
use Rattle.householder.specs.inner.Places.{QR_B, QR_MATRIX, QR_SIDE, QR_SOLUTION}

-- the factors of an m by n matrix, of rank k
abbrev pub held : (m n k : ℕ) → List Float → List ℕ → Factors
held m n k w iw = record { rank = k; r = mat QR_MATRIX m n w; perm = nums 0 n iw; u = stack 0 (min m n) m w; b = vec QR_B (min m n) w }

-- ---- factoring

-- w' is w as far as the n columns of the matrix: what stands behind them is free
abbrev pub Kept : (n : ℕ) (w w' : List Float) → Type 0
Kept n w w' = (x : ℕ) → x < QR_MATRIX + n * 18 → at w' x ≡ at w x

-- the reflectors from k on, of c, are not made yet: they are +0
abbrev pub Unmade : (k c : ℕ) → List Float → Type 0
Unmade k c w = (x : ℕ) → k * 18 ≤ x → x < c * 18 → at w x ≡ +0

-- w' is w with the vector at o under reflector k
pub record Reflected (m k o : ℕ) (w w' : List Float) : Type 0 where
  pub value : vec o m w' ≡ image m k (vec (k * 18) m w) (at w (QR_B + k)) (vec o m w)
  pub before : (x : ℕ) → x < o → at w' x ≡ at w x
  pub after : (x : ℕ) → o + m ≤ x → at w' x ≡ at w x

-- and each of the four vectors from o on, 18 places apart
pub record ReflectedFour (m k o : ℕ) (w w' : List Float) : Type 0 where
  pub values : (j : ℕ) → j < 4 → vec (o + j * 18) m w' ≡ image m k (vec (k * 18) m w) (at w (QR_B + k)) (vec (o + j * 18) m w)
  pub before : (x : ℕ) → x < o → at w' x ≡ at w x
  pub after : (x : ℕ) → o + 54 + m ≤ x → at w' x ≡ at w x

-- w' is w with two numbers put into the places from o on
pub record PutTwo (o : ℕ) (a b : Float) (w w' : List Float) : Type 0 where
  pub first : at w' o ≡ a
  pub second : at w' (o + 1) ≡ b
  pub others : (x : ℕ) → (x ≡ o → ⊥) → (x ≡ o + 1 → ⊥) → at w' x ≡ at w x

-- w' is w with the n numbers from p on, times each of four numbers, added to the n from q on and from 18, 36 and 54 behind q on
pub record Lifted (p q n : ℕ) (s : Four) (w w' : List Float) : Type 0 where
  pub first : (t : ℕ) → t < n → at w' (q + t) ≡ at w (q + t) ⊕ s.a ⊗ at w (p + t)
  pub second : (t : ℕ) → t < n → at w' (q + 18 + t) ≡ at w (q + 18 + t) ⊕ s.b ⊗ at w (p + t)
  pub third : (t : ℕ) → t < n → at w' (q + 36 + t) ≡ at w (q + 36 + t) ⊕ s.c ⊗ at w (p + t)
  pub fourth : (t : ℕ) → t < n → at w' (q + 54 + t) ≡ at w (q + 54 + t) ⊕ s.d ⊗ at w (p + t)
  pub others : (x : ℕ) → ((j t : ℕ) → j < 4 → t < n → x ≡ q + j * 18 + t → ⊥) → at w' x ≡ at w x

-- w' is w with each column past k and before j under reflector k
pub record Turned (m k j : ℕ) (w w' : List Float) : Type 0 where
  pub columns : (q : ℕ) → k < q → q < j → vec (QR_MATRIX + q * 18) m w' ≡ image m k (vec (k * 18) m w) (at w (QR_B + k)) (vec (QR_MATRIX + q * 18) m w)
  pub before : (x : ℕ) → x < QR_MATRIX + (k + 1) * 18 → at w' x ≡ at w x
  pub after : (x : ℕ) → QR_MATRIX + j * 18 ≤ x → at w' x ≡ at w x

-- w' is w with columns k and p exchanged
pub record Exchanged (m k p : ℕ) (w w' : List Float) : Type 0 where
  pub first : (i : ℕ) → i < m → at w' (QR_MATRIX + k * 18 + i) ≡ at w (QR_MATRIX + p * 18 + i)
  pub second : (i : ℕ) → i < m → at w' (QR_MATRIX + p * 18 + i) ≡ at w (QR_MATRIX + k * 18 + i)
  pub others : (x : ℕ) → ((i : ℕ) → i < m → x ≡ QR_MATRIX + k * 18 + i → ⊥) → ((i : ℕ) → i < m → x ≡ QR_MATRIX + p * 18 + i → ⊥) → at w' x ≡ at w x

-- w' is w with the c numbers from p on moved to q on, and +0 where they stood
pub record Moved (p q c : ℕ) (w w' : List Float) : Type 0 where
  pub there : (t : ℕ) → t < c → at w' (q + t) ≡ at w (p + t)
  pub left : (t : ℕ) → t < c → at w' (p + t) ≡ +0
  pub others : (x : ℕ) → ((t : ℕ) → t < c → x ≡ q + t → ⊥) → ((t : ℕ) → t < c → x ≡ p + t → ⊥) → at w' x ≡ at w x

-- the new diagonal entry of column k
abbrev pub diagonal_of : ℕ → Float → List Float → Float
diagonal_of k largest w = signed (at w (QR_MATRIX + k * 18 + k)) largest

-- w' is w with reflector k made of column k, and column k under it
pub record Prepared (m k : ℕ) (largest : Float) (w w' : List Float) : Type 0 where
  pub u : (i : ℕ) → i < m
      → at w' (k * 18 + i) ≡ cond (ltb i k) +0 (cond (eqb i k) (at w (QR_MATRIX + k * 18 + k) ⊖ diagonal_of k largest w) (at w (QR_MATRIX + k * 18 + i)))
  pub b : at w' (QR_B + k) ≡ diagonal_of k largest w ⊗ (at w (QR_MATRIX + k * 18 + k) ⊖ diagonal_of k largest w)
  pub diagonal : at w' (QR_MATRIX + k * 18 + k) ≡ diagonal_of k largest w
  pub below : (i : ℕ) → k < i → i < m → at w' (QR_MATRIX + k * 18 + i) ≡ +0
  pub others : (x : ℕ) → (x ≡ QR_B + k → ⊥) → ((i : ℕ) → i < m → x ≡ k * 18 + i → ⊥) → ((i : ℕ) → k ≤ i → i < m → x ≡ QR_MATRIX + k * 18 + i → ⊥)
      → at w' x ≡ at w x

-- ---- applying and solving, with factors of rank k that have any number n of columns, and any permutation

-- w' is w with the vector at o under Q'
pub record AppliedQt (m k o : ℕ) (w w' : List Float) : Type 0 where
  pub value : (n : ℕ) (iw : List ℕ) → k ≤ n → vec o m w' ≡ apply_qt m (held m n k w iw) (vec o m w)
  pub before : (x : ℕ) → x < o → at w' x ≡ at w x
  pub after : (x : ℕ) → o + m ≤ x → at w' x ≡ at w x

-- and each of the four vectors from o on, 18 places apart
pub record AppliedFour (m k o : ℕ) (w w' : List Float) : Type 0 where
  pub values : (j : ℕ) → j < 4 → (n : ℕ) (iw : List ℕ) → k ≤ n → vec (o + j * 18) m w' ≡ apply_qt m (held m n k w iw) (vec (o + j * 18) m w)
  pub before : (x : ℕ) → x < o → at w' x ≡ at w x
  pub after : (x : ℕ) → o + 54 + m ≤ x → at w' x ≡ at w x

-- and under Q
pub record AppliedQ (m k o : ℕ) (w w' : List Float) : Type 0 where
  pub value : (n : ℕ) (iw : List ℕ) → k ≤ n → vec o m w' ≡ apply_q m (held m n k w iw) (vec o m w)
  pub before : (x : ℕ) → x < o → at w' x ≡ at w x
  pub after : (x : ℕ) → o + m ≤ x → at w' x ≡ at w x

-- w' is w with the right-hand side, of c numbers, solved for R z = y
pub record SolvedR (k : ℕ) (w w' : List Float) : Type 0 where
  pub value : (m n c : ℕ) (iw : List ℕ) → k ≤ m → k ≤ n → k ≤ c → c ≤ 18 → vec QR_SIDE c w' ≡ solve_r n (held m n k w iw) (vec QR_SIDE c w)
  pub before : (x : ℕ) → x < QR_SIDE → at w' x ≡ at w x
  pub after : (x : ℕ) → QR_SIDE + k ≤ x → at w' x ≡ at w x

-- w' is w with the vector at o, of k numbers, solved for R'z = y
pub record SolvedRt (n k o : ℕ) (w w' : List Float) : Type 0 where
  pub value : (m : ℕ) (iw : List ℕ) → k ≤ m → vec o k w' ≡ solve_rt n (held m n k w iw) (vec o k w)
  pub before : (x : ℕ) → x < o → at w' x ≡ at w x
  pub after : (x : ℕ) → o + k ≤ x → at w' x ≡ at w x

-- w' is w with each of the four vectors from o on, 18 places apart and of k numbers, solved for R'z = y
pub record SolvedFour (n k o : ℕ) (w w' : List Float) : Type 0 where
  pub first : (m : ℕ) (iw : List ℕ) → k ≤ m → vec o k w' ≡ solve_rt n (held m n k w iw) (vec o k w)
  pub second : (m : ℕ) (iw : List ℕ) → k ≤ m → vec (o + 18) k w' ≡ solve_rt n (held m n k w iw) (vec (o + 18) k w)
  pub third : (m : ℕ) (iw : List ℕ) → k ≤ m → vec (o + 36) k w' ≡ solve_rt n (held m n k w iw) (vec (o + 36) k w)
  pub fourth : (m : ℕ) (iw : List ℕ) → k ≤ m → vec (o + 54) k w' ≡ solve_rt n (held m n k w iw) (vec (o + 54) k w)
  pub others : (x : ℕ) → ((j t : ℕ) → j < 4 → t < k → x ≡ o + j * 18 + t → ⊥) → at w' x ≡ at w x

-- w' is w with the first k of the m entries of the right-hand side put into the n places of the solution, where p says
pub record Placed (n k : ℕ) (p : List ℕ) (w w' : List Float) : Type 0 where
  pub value : (m : ℕ) → k ≤ m → m ≤ 18 → vec QR_SOLUTION n w' ≡ scatter k p (vec QR_SIDE m w) (vec QR_SOLUTION n w)
  pub before : (x : ℕ) → x < QR_SOLUTION → at w' x ≡ at w x
  pub after : (x : ℕ) → QR_SOLUTION + n ≤ x → at w' x ≡ at w x
