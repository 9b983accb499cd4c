-- What the functions here do to the workspaces of nonnegative least squares: steps on the way, and `PassiveSolved` for the callers. Definitions only.
use Rattle.std.specs.Prelude.{◌≡◌, Bool, false, List, ℕ, ◌+◌, ◌*◌, ◌<◌, ◌≤◌, drop, length, set, Float}
use Rattle.numbers.specs.Numbers.{at, nth, scatter}
use Rattle.workspace.specs.Readings.{vec, mat, nums}
use Rattle.householder.specs.Qr.{factor, solve}
use Rattle.householder.specs.inner.Work.{held}
use Rattle.nnls_passive.specs.Passive.{members, solve_of}
use Rattle.nnls_passive.specs.inner.Places.{NNLS_COLUMNS, NNLS_DUAL, NNLS_PERM, NNLS_QR, NNLS_QR_MATRIX, NNLS_QR_SOLUTION, NNLS_SIDE, NNLS_Z}

-- the marked of the first j columns are listed, and there are c
pub record Listed (j c : ℕ) (l l' : List ℕ) : Type 0 where
  pub count : c ≡ length (members l j)
  pub columns : (t : ℕ) → t < c → nth l' (NNLS_COLUMNS + t) ≡ nth (members l j) t
  pub before : (x : ℕ) → x < NNLS_COLUMNS → nth l' x ≡ nth l x

-- the first c columns that are listed stand side by side in the QR part
pub record Collected (m c : ℕ) (l : List ℕ) (w w' : List Float) : Type 0 where
  pub copied : (t i : ℕ) → t < c → i < m → at w' (NNLS_QR_MATRIX + t * 18 + i) ≡ at w (nth l (NNLS_COLUMNS + t) * 18 + i)
  pub front : (x : ℕ) → x < NNLS_QR_MATRIX → at w' x ≡ at w x

-- the QR part has the factors of the c columns there, of rank k
pub record PartFactored (m c k : ℕ) (w w' : List Float) (l l' : List ℕ) : Type 0 where
  pub factors : held m c k (drop NNLS_QR w') (drop NNLS_PERM l') ≡ factor m c (mat NNLS_QR_MATRIX m c w)
  pub front : (x : ℕ) → x < NNLS_QR → at w' x ≡ at w x
  pub chosen : (x : ℕ) → x < NNLS_PERM → nth l' x ≡ nth l x

-- the QR part has the solution for b
pub record SolvedPart (m c k : ℕ) (w w' : List Float) (l : List ℕ) : Type 0 where
  pub values : vec NNLS_QR_SOLUTION c w' ≡ solve m c (held m c k (drop NNLS_QR w) (drop NNLS_PERM l)) (vec NNLS_SIDE m w)
  pub front : (x : ℕ) → x < NNLS_QR → at w' x ≡ at w x

-- t of the c entries of the solution stand in z, at the columns that are listed
pub record Spread (n t c : ℕ) (l : List ℕ) (w w' : List Float) : Type 0 where
  pub values : vec NNLS_Z n w' ≡ scatter t (nums NNLS_COLUMNS c l) (vec NNLS_QR_SOLUTION c w) (vec NNLS_Z n w)
  pub before : (x : ℕ) → x < NNLS_Z → at w' x ≡ at w x
  pub after : (x : ℕ) → NNLS_DUAL ≤ x → at w' x ≡ at w x

-- the solve on the passive columns: z and the answer are the definition's; A, b, x, the dual, the residual and the marks stay
pub record PassiveSolved (m n : ℕ) (full : Bool) (w w' : List Float) (l l' : List ℕ) : Type 0 where
  pub rank : full ≡ (solve_of m n (mat 0 m n w) (vec NNLS_SIDE m w) (nums 0 n l)).full
  pub values : vec NNLS_Z n w' ≡ (solve_of m n (mat 0 m n w) (vec NNLS_SIDE m w) (nums 0 n l)).z
  pub before : (x : ℕ) → x < NNLS_Z → at w' x ≡ at w x
  pub after : (x : ℕ) → NNLS_DUAL ≤ x → x < NNLS_QR → at w' x ≡ at w x
  pub marks : (x : ℕ) → x < NNLS_COLUMNS → nth l' x ≡ nth l x

-- whatever A and b are, the marked columns have no full rank
abbrev pub Dependent : (m n : ℕ) → List ℕ → Type 0
Dependent m n p = (a b : List Float) → (solve_of m n a b p).full ≡ false

-- with any column more they have none
abbrev pub Crowded : (m n : ℕ) → List ℕ → Type 0
Crowded m n p = (t : ℕ) → t < n → nth p t ≡ 0 → Dependent m n (set p t 1)
