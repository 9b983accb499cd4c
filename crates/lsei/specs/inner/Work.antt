-- Where the inputs and answers of LDP and LSI stand in the workspace, and what their functions do to it, for the contracts of the kernels. No promise of a public operation rests on these.
use Rattle.std.specs.Prelude.{◌≡◌, List, ℕ, ◌+◌, ◌*◌, ◌<◌, ◌≤◌, Float, Result, Ok, Err, ⊤}
use Rattle.numbers.specs.Numbers.{at, nth, tab, Σ, ◌⊖◌, ◌⊗◌}
use Rattle.workspace.specs.Tables.{Answer, done, refused}
use Rattle.workspace.specs.Readings.{vec, mat, stack}
use Rattle.householder.specs.Qr.{factor, apply_qt, solve_rt}
use Rattle.householder.specs.inner.Work.{held}
use Rattle.nnls.specs.Counted.{Counted}
use Rattle.lsei.specs.Lsei.{Solution, reduced_rows, reduced_sides, restored}
use Rattle.workspace.specs.declared.Refusal.{Refusal}
use Rattle.lsei.specs.declared.Unsolved.{Unsolved}
use Rattle.lsei.specs.declared.Unsolved.TheVariants.{Deficient, Dependent, Infeasible, Capped}
use Rattle.lsei.specs.declared.Ended.{Ended}
use Rattle.householder.specs.inner.Places.{QR_MATRIX, QR_SOLUTION}
use Rattle.lsei.specs.inner.Places.{LDP_MULTIPLIERS, LDP_SIDE, LDP_U, LDP_X, LSI_F, LSI_G, LSI_LDP_X, LSI_MULTIPLIERS, LSI_X}

-- entry j of the dual's residual E u - f, of m rows
abbrev pub residual_in : (m j : ℕ) → List Float → Float
residual_in m j w = Σ m (λ i. at w (j + i * 18) ⊗ at w (LDP_U + i * 1)) ⊖ at w (LDP_SIDE + j)

-- what a caller is told of it
abbrev pub refusal_of : Unsolved → Refusal
refusal_of (Deficient place) = Refusal.Deficient place
refusal_of (Dependent place) = Refusal.Dependent place
refusal_of Infeasible = Refusal.Infeasible
refusal_of Capped = Refusal.Capped

-- an ending, with the solution that it left
abbrev pub ending_answer : Result ⊤ Unsolved → Solution → Answer Solution
ending_answer (Ok v) s = done s
ending_answer (Err u) s = refused (refusal_of u)

abbrev pub ended_solution : Ended → Solution → Counted Solution
ended_solution e s = record { answer = ending_answer e.ending s; rounds = e.rounds; factorings = e.factorings }

-- the sides of m rows from o on
unfoldable pub sides : (o m n : ℕ) → List Float → List Float
sides o m n w = tab m (λ i. at w (o + i * 18 + n))

-- ---- LDP

-- what it leaves
abbrev pub distance_in : (m n : ℕ) → List Float → Solution
distance_in m n w = record { x = vec LDP_X n w; multipliers = vec LDP_MULTIPLIERS m w }

-- ---- LSI

-- what it leaves
abbrev pub squares_in : (n mg : ℕ) → List Float → Solution
squares_in n mg w = record { x = vec LSI_X n w; multipliers = vec LSI_MULTIPLIERS mg w }

-- the factors of the m by n matrix in the QR part stand in the first b entries, and the others are as they were
pub record FactoredFront (m n b k : ℕ) (w w' : List Float) (iw' : List ℕ) : Type 0 where
  pub factors : held m n k w' iw' ≡ factor m n (mat QR_MATRIX m n w)
  pub after : (x : ℕ) → b ≤ x → at w' x ≡ at w x

-- row i permuted, by way of the solution's place
pub record PermutedRow (n i : ℕ) (iw : List ℕ) (w w' : List Float) : Type 0 where
  pub row : (t : ℕ) → t < n → at w' (LSI_G + i * 18 + t) ≡ at w (LSI_G + i * 18 + nth iw t)
  pub low : (x : ℕ) → x < QR_SOLUTION → at w' x ≡ at w x
  pub middle : (x : ℕ) → QR_MATRIX ≤ x → x < LSI_G + i * 18 → at w' x ≡ at w x
  pub after : (x : ℕ) → LSI_G + i * 18 + n ≤ x → at w' x ≡ at w x

-- the first c rows permuted
pub record Permuted (n c : ℕ) (iw : List ℕ) (w w' : List Float) : Type 0 where
  pub rows : (i t : ℕ) → i < c → t < n → at w' (LSI_G + i * 18 + t) ≡ at w (LSI_G + i * 18 + nth iw t)
  pub sides : (i : ℕ) → at w' (LSI_G + i * 18 + n) ≡ at w (LSI_G + i * 18 + n)
  pub low : (x : ℕ) → x < QR_SOLUTION → at w' x ≡ at w x
  pub middle : (x : ℕ) → QR_MATRIX ≤ x → x < LSI_G → at w' x ≡ at w x
  pub after : (x : ℕ) → LSI_G + c * 18 ≤ x → at w' x ≡ at w x

-- the first c rows under R'^-1, for an R of m rows
pub record SolvedRows (n c : ℕ) (w w' : List Float) : Type 0 where
  pub rows : (i m : ℕ) (iw : List ℕ) → i < c → n ≤ m → m ≤ 18 → vec (LSI_G + i * 18) n w' ≡ solve_rt n (held m n n w iw) (vec (LSI_G + i * 18) n w)
  pub sides : (i : ℕ) → at w' (LSI_G + i * 18 + n) ≡ at w (LSI_G + i * 18 + n)
  pub before : (x : ℕ) → x < LSI_G → at w' x ≡ at w x
  pub after : (x : ℕ) → LSI_G + c * 18 ≤ x → at w' x ≡ at w x

-- the first c sides, each less its row's product with Q'f
pub record Shifted (n c : ℕ) (w w' : List Float) : Type 0 where
  pub sides : (i : ℕ) → i < c → at w' (LSI_G + i * 18 + n) ≡ at w (LSI_G + i * 18 + n) ⊖ Σ n (λ k. at w (LSI_G + i * 18 + k) ⊗ at w (LSI_F + k))
  pub others : (x : ℕ) → ((i : ℕ) → i < c → x ≡ LSI_G + i * 18 + n → ⊥) → at w' x ≡ at w x

-- Q'f in the place of f, and all rows and sides reduced; the factors of E stay
pub record Reduced (n me mg : ℕ) (iw : List ℕ) (w w' : List Float) : Type 0 where
  pub turned : vec LSI_F me w' ≡ apply_qt me (held me n n w iw) (vec LSI_F me w)
  pub rows : stack LSI_G mg n w' ≡ reduced_rows n mg (held me n n w iw) (stack LSI_G mg n w)
  pub bounds : sides LSI_G mg n w' ≡ reduced_sides n mg (stack LSI_G mg n w') (vec LSI_F me w') (sides LSI_G mg n w)
  pub factors : held me n n w' iw ≡ held me n n w iw

-- x, from LDP's and from Q'f; what lies behind the solution of the QR part stays
pub record Restored (n : ℕ) (iw : List ℕ) (w w' : List Float) : Type 0 where
  pub x : (m : ℕ) → n ≤ m → m ≤ 18 → vec LSI_X n w' ≡ restored n (held m n n w iw) (vec LSI_F m w) (vec LSI_LDP_X n w)
  pub after : (x : ℕ) → QR_MATRIX ≤ x → at w' x ≡ at w x

-- ---- a write of one place in 18: the c entries from q on, 18 apart, are f 0, f 1, ..

pub record Spaced (q c : ℕ) (f : ℕ → Float) (w w' : List Float) : Type 0 where
  pub inside : (t : ℕ) → t < c → at w' (q + t * 18) ≡ f t
  pub others : (x : ℕ) → ((t : ℕ) → t < c → x ≡ q + t * 18 → ⊥) → at w' x ≡ at w x
