-- What stands in a workspace, and what a write leaves as it was. Definitions only.
-- A matrix stands there by columns of height 18: column j of the one at o begins at o + 18 j, so every place is a sum of numerals and indices.
use Rattle.std.specs.Prelude.{◌≡◌, ℕ, ◌+◌, ◌*◌, ◌<◌, ◌≤◌, List, get_or, Float}
use Rattle.std.specs.Float.{nan}
use Rattle.numbers.specs.Numbers.{+0, at, nth, tab, rows, grid}
use Rattle.workspace.specs.Tables.{cleared}

-- ---- the f64 workspace

-- the vector of n numbers from o on
unfoldable pub vec : (o n : ℕ) → List Float → List Float
vec o n w = tab n (λ i. at w (o + i))

-- the m by n matrix whose columns begin at o, o + 18, ..
unfoldable pub mat : (o m n : ℕ) → List Float → List Float
mat o m n w = grid m n (λ i j. at w (o + j * 18 + i))

-- c vectors of m numbers that begin at o, o + 18, .., as the rows of a matrix
unfoldable pub stack : (o c m : ℕ) → List Float → List Float
stack o c m w = rows c (λ k. vec (o + k * 18) m w)

-- ---- the u32 workspace

-- the n numbers from o on
unfoldable pub nums : (o n : ℕ) → List ℕ → List ℕ
nums o n l = tab n (λ i. nth l (o + i))

-- ---- a write

-- w' is w, but for the c entries from o on, which are f 0, f 1, .. (d is what a reading past the end gives)
pub record Written {A : Type 0} (d : A) (o c : ℕ) (f : ℕ → A) (w w' : List A) : Type 0 where
  pub inside : (t : ℕ) → t < c → get_or w' (o + t) d ≡ f t
  pub before : (x : ℕ) → x < o → get_or w' x d ≡ get_or w x d
  pub after : (x : ℕ) → o + c ≤ x → get_or w' x d ≡ get_or w x d

-- in the f64 workspace, and in the u32 workspace
abbrev pub Block : (o c : ℕ) → (ℕ → Float) → (w w' : List Float) → Type 0
Block o c f w w' = Written nan o c f w w'

abbrev pub Span : (o c : ℕ) → (ℕ → ℕ) → (l l' : List ℕ) → Type 0
Span o c f l l' = Written 0 o c f l l'

-- ---- copies in, and clearing

-- the m by n matrix a stands at o, and the rest is as it was
pub record Loaded (o m n : ℕ) (a w w' : List Float) : Type 0 where
  pub matrix : mat o m n w' ≡ a
  pub before : (x : ℕ) → x < o → at w' x ≡ at w x
  pub after : (x : ℕ) → o + n * 18 ≤ x → at w' x ≡ at w x

-- the c rows of m entries of a stand from o on as vectors, and the rest is as it was
pub record Stacked (o c m : ℕ) (a w w' : List Float) : Type 0 where
  pub vectors : stack o c m w' ≡ a
  pub before : (x : ℕ) → x < o → at w' x ≡ at w x
  pub after : (x : ℕ) → o + c * 18 ≤ x → at w' x ≡ at w x

-- both workspaces with their first 8,192 and 512 entries zero
pub record Cleared (w w' : List Float) (iw iw' : List ℕ) : Type 0 where
  pub floats : w' ≡ cleared +0 8192 w
  pub words : iw' ≡ cleared 0 512 iw
