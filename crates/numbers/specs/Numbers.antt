-- The words of every definition: the two zeros, rounded operations, sums, lists and matrices. Definitions only.
-- A vector is a list. A matrix is a list too, row by row, and whoever has it knows its sizes.
use Rattle.std.specs.Prelude.{ℕ, zero, suc, ◌+◌, ◌*◌, ◌^◌, ◌<◌, ◌≤◌, ◌≡◌, true, false, List, [], ◌∷◌, ◌++◌, pos, get_or, set, Float}
use Rattle.std.specs.Float.{nan, fin, binary64}
use Rattle.std.specs.Float.Ieee.{add, sub, mul, div, round}

-- ---- numbers

abbrev pub +0 : Float
+0 = fin false 0 (pos 0)

abbrev pub -0 : Float
-0 = fin true 0 (pos 0)

abbrev pub -1 : Float
-1 = fin true 1 (pos 0)

-- the f64 nearest to a / b: how constants are written
abbrev pub near : ℕ → ℕ → Float
near a b = round binary64 false a b

abbrev pub one : Float
one = near 1 1

-- 2 ^ -52
abbrev pub epsilon : Float
epsilon = near 1 (2 ^ 52)

-- the four operations on f64s, each rounded once
infixl 20 ◌⊕◌ ◌⊖◌
infixl 30 ◌⊗◌ ◌⊘◌
abbrev pub ◌⊕◌ : Float → Float → Float
x ⊕ y = add binary64 x y

abbrev pub ◌⊖◌ : Float → Float → Float
x ⊖ y = sub binary64 x y

abbrev pub ◌⊗◌ : Float → Float → Float
x ⊗ y = mul binary64 x y

abbrev pub ◌⊘◌ : Float → Float → Float
x ⊘ y = div binary64 x y

-- ---- sums

-- f 0 + f 1 + .. + f (n - 1): left to right from -0
unfoldable pub Σ : ℕ → (ℕ → Float) → Float
Σ zero f = -0
Σ (suc n) f = Σ n f ⊕ f n

-- ---- lists

-- entry i of a vector; `nan` past its end, which no definition reads
abbrev pub at : List Float → ℕ → Float
at v i = get_or v i nan

-- entry k of a list of column numbers
abbrev pub nth : List ℕ → ℕ → ℕ
nth js k = get_or js k 0

-- the list f 0, f 1, .., f (n - 1)
unfoldable pub tab : {A : Type 0} → ℕ → (ℕ → A) → List A
tab zero f = []
tab (suc n) f = f zero ∷ tab n (λ k. f (suc k))

-- x'y, over the first n entries of each
unfoldable pub dot : ℕ → List Float → List Float → Float
dot n x y = Σ n (λ k. at x k ⊗ at y k)

-- the entries of v that js names, in its order: n of them
unfoldable pub gather : ℕ → List ℕ → List Float → List Float
gather n js v = tab n (λ k. at v (nth js k))

-- x with entry js k set to v k, for each k below n in order
unfoldable pub scatter : ℕ → List ℕ → List Float → List Float → List Float
scatter zero js v x = x
scatter (suc k) js v x = set (scatter k js v x) (nth js k) (at v k)

-- ---- matrices

-- entry (i, j) of a matrix of n columns
abbrev pub entry : ℕ → List Float → ℕ → ℕ → Float
entry n a i j = at a (i * n + j)

-- the matrix of m rows f 0, f 1, .., f (m - 1)
unfoldable pub rows : ℕ → (ℕ → List Float) → List Float
rows zero f = []
rows (suc m) f = f zero ++ rows m (λ i. f (suc i))

-- the m by n matrix whose entry (i, j) is f i j
unfoldable pub grid : ℕ → ℕ → (ℕ → ℕ → Float) → List Float
grid m n f = rows m (λ i. tab n (f i))

-- row i, and column j, of an m by n matrix
unfoldable pub row : ℕ → ℕ → List Float → List Float
row n i a = tab n (λ j. entry n a i j)

unfoldable pub column : ℕ → ℕ → ℕ → List Float → List Float
column m n j a = tab m (λ i. entry n a i j)

-- A' of an m by n matrix A
unfoldable pub transposed : ℕ → ℕ → List Float → List Float
transposed m n a = grid n m (λ j i. entry n a i j)

-- two n by n matrices agree on and below the diagonal
abbrev pub SameLower : ℕ → (a b : List Float) → Type 0
SameLower n a b = (i j : ℕ) → i < n → j ≤ i → entry n a i j ≡ entry n b i j
