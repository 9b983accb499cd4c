-- Laws of loops that write one column, or one row, a turn.
use mathlib.Core.Path.{◌≡◌, refl, sym, ap, ◌∙◌}
use mathlib.Core.Logic.{⊎_elim}
use mathlib.Core.List.{List}
use Prim.Native.Nat.{ℕ, ◌+◌, ◌*◌, ◌≤◌, ◌<◌}
use native.Mathlib.Omega.{arith}
use lib.ListN.{length}
use lib.Ieee.{Float}
use Rattle.numbers.specs.Numbers.{at, entry}
use Rattle.numbers.proofs.Cases.{lt-or-ge}
use Rattle.numbers.proofs.Lists.{grid-of, matrix-same, index-lt, row_fits}
use Rattle.workspace.specs.Readings.{mat, stack, Block, Loaded, Stacked}
use Rattle.workspace.proofs.Readings.{mat-is, length-mat, entry-mat, length-stack, entry_stack}

-- ---- columns of height 18: after t turns the first t columns at o, of m entries each, are f 0, f 1, ..

pub record Laid (o m t : ℕ) (f : ℕ → ℕ → Float) (w w' : List Float) : Type 0 where
  pub entries : (j i : ℕ) → j < t → i < m → at w' (o + j * 18 + i) ≡ f j i
  pub before : (x : ℕ) → x < o → at w' x ≡ at w x
  pub after : (x : ℕ) → o + t * 18 ≤ x → at w' x ≡ at w x

pub laid_none : (o m : ℕ) (f : ℕ → ℕ → Float) (w : List Float) → Laid o m 0 f w w
laid_none o m f w = record { entries = λ j i h. absurd (omega arith); before = λ x h. refl; after = λ x h. refl }

pub laid_more : (o m t : ℕ) (f : ℕ → ℕ → Float) (w w' w'' : List Float) → m ≤ 18 → Block (o + t * 18) m (f t) w' w'' → Laid o m t f w w' → Laid o m (t + 1) f w w''
laid_more o m t f w w' w'' hm b r = record {
  entries = λ j i hj hi.
      ⊎_elim (λ (q : j < t). b.before (o + j * 18 + i) (omega arith) ∙ r.entries j i q hi) (λ (q : t ≤ j). let e : j ≡ t = omega arith in rw e (b.inside i hi))
      (lt-or-ge j t);
  before = λ x h. b.before x (omega arith) ∙ r.before x h;
  after = λ x h. b.after x (omega arith) ∙ r.after x (omega arith);
}

-- a matrix in, column by column: entry i of column j is found at j + i * n
pub laid-matrix : (o m n : ℕ) (a w w' : List Float) → length a ≡ m * n → Laid o m n (λ j i. at a (j + i * n)) w w' → Loaded o m n a w w'
laid-matrix o m n a w w' e r = record {
  matrix =
      mat-is o m n w' (λ i j. entry n a i j) (λ i j hi hj. r.entries j i hj hi ∙ ap (λ (x : ℕ). at a x) (let q : j + i * n ≡ i * n + j = omega arith in q))
      ∙ grid-of m n a e;
  before = r.before;
  after = r.after;
}

-- rows in, as vectors: entry i of row k is found at k * m + i * 1
pub laid-stack : (o c m : ℕ) (a w w' : List Float) → length a ≡ c * m → Laid o m c (λ k i. at a (k * m + i * 1)) w w' → Stacked o c m a w w'
laid-stack o c m a w w' e r = record {
  vectors =
      matrix-same c m (stack o c m w') a (length-stack o c m w') e
      (λ k i hk hi. entry_stack o c m w' k i hk hi ∙ r.entries k i hk hi ∙ ap (λ (x : ℕ). at a x) (let q : k * m + i * 1 ≡ k * m + i = omega arith in q));
  before = r.before;
  after = r.after;
}

-- the places that such a copy reads lie in a
pub column-in : (m n j len : ℕ) → j < n → len ≡ m * n → (i : ℕ) → i < m → j + i * n < len
column-in m n j len hj e i hi = omega (arith, index-lt m n i j hi hj)

pub row_in : (c m k len : ℕ) → k < c → len ≡ c * m → (i : ℕ) → i < m → k * m + i * 1 < len
row_in c m k len hk e i hi = omega (arith, index-lt c m k i hk hi)

-- ---- rows of a row-major matrix: after t turns its first t rows, of n entries each, are f 0, f 1, ..

pub Rowed : (n t : ℕ) (f : ℕ → ℕ → Float) (a : List Float) → Type 0
Rowed n t f a = (i j : ℕ) → i < t → j < n → at a (i * n + j) ≡ f i j

pub rowed-none : (n : ℕ) (f : ℕ → ℕ → Float) (a : List Float) → Rowed n 0 f a
unfolding Rowed
rowed-none n f a i j h = absurd (omega arith)

pub rowed-more : (n t : ℕ) (f : ℕ → ℕ → Float) (a a' : List Float) → Block (t * n) n (f t) a a' → Rowed n t f a → Rowed n (t + 1) f a'
unfolding Rowed
rowed-more n t f a a' b r i j hi hj =
    ⊎_elim (λ (q : i < t). b.before (i * n + j) (omega (arith, index-lt t n i j q hj)) ∙ r i j q hj) (λ (q : t ≤ i). let e : i ≡ t = omega arith in rw e (b.inside j hj))
    (lt-or-ge i t)

pub rowed-mat : (o m n : ℕ) (w a : List Float) → length a ≡ m * n → Rowed n m (λ i j. at w (o + i + j * 18)) a → a ≡ mat o m n w
unfolding Rowed
rowed-mat o m n w a e r =
    matrix-same m n a (mat o m n w) e (length-mat o m n w)
    (λ i j hi hj.
    r i j hi hj ∙ ap (λ (x : ℕ). at w x) (let q : o + i + j * 18 ≡ o + j * 18 + i = omega arith in q) ∙ sym (entry-mat o m n w i j hi hj))

pub rowed-stack : (o c m : ℕ) (w a : List Float) → length a ≡ c * m → Rowed m c (λ k i. at w (o + k * 18 + i * 1)) a → a ≡ stack o c m w
unfolding Rowed
rowed-stack o c m w a e r =
    matrix-same c m a (stack o c m w) e (length-stack o c m w)
    (λ k i hk hi.
    r k i hk hi ∙ ap (λ (x : ℕ). at w x) (let q : o + k * 18 + i * 1 ≡ o + k * 18 + i = omega arith in q) ∙ sym (entry_stack o c m w k i hk hi))

-- row t of such a matrix lies within it, and it is small enough that no place wraps
pub rows_in : (m n t len : ℕ) → t < m → len ≡ m * n → t * n + n ≤ len
rows_in m n t len h e = omega (arith, row_fits m n t h)
