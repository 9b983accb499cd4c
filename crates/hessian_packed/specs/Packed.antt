-- The approximation B kept as its lower triangle, row by row, n(n + 1)/2 numbers (docs/RULES.md, "The approximation B"). Definitions only.
use Rattle.std.specs.Prelude.{ℕ, zero, suc, ◌+◌, ◌*◌, ◌/◌, cond, List, [], ◌++◌, leb, eqb, Float}
use Rattle.std.specs.Float.Ieee.{le}
use Rattle.numbers.specs.Numbers.{+0, one, ◌⊕◌, ◌⊖◌, ◌⊗◌, ◌⊘◌, Σ, at, tab, dot, entry, grid}
use Rattle.workspace.specs.Tables.{Answer}
use Rattle.hessian.specs.Hessian.{theta, damped}
use Rattle.hessian.specs.Hessian as Square

-- ---- a triangle

-- how many numbers n rows have: 1 + 2 + .. + n
abbrev pub count : ℕ → ℕ
count n = n * (n + 1) / 2

-- where entry (i, j) stands: above the diagonal that of its mirror is meant
abbrev pub place : ℕ → ℕ → ℕ
place i j = cond (leb j i) (count i + j) (count j + i)

-- the n rows f 0 0; f 1 0, f 1 1; ..
unfoldable pub triangle : ℕ → (ℕ → ℕ → Float) → List Float
triangle zero f = []
triangle (suc n) f = triangle n f ++ tab (n + 1) (f n)

-- the lower triangle of a square, and the square that a triangle stands for
unfoldable pub packed : ℕ → List Float → List Float
packed n b = triangle n (λ i j. entry n b i j)

unfoldable pub unpacked : ℕ → List Float → List Float
unpacked n p = grid n n (λ i j. at p (place i j))

-- ---- the four operations, on the triangle p

unfoldable pub identity : ℕ → List Float
identity n = triangle n (λ i j. cond (eqb i j) one +0)

-- B v
unfoldable pub times : ℕ → List Float → List Float → List Float
times n p v = tab n (λ i. Σ n (λ j. at p (place i j) ⊗ at v j))

-- L is square, n by n, as the step takes it: the square form's, of the square that p stands for
unfoldable pub cholesky : ℕ → List Float → Answer (List Float)
cholesky n p = Square.cholesky n (unpacked n p)

-- B + (r r' / s'r - Bs s'_b / s'_bs)
unfoldable pub revised : ℕ → (p r bs : List Float) (sr sbs : Float) → List Float
revised n p r bs sr sbs = triangle n (λ i j. at p (count i + j) ⊕ (at r i ⊗ at r j ⊘ sr ⊖ at bs i ⊗ at bs j ⊘ sbs))

unfoldable pub curved : ℕ → (p s y bs : List Float) (sbs : Float) → List Float
curved n p s y bs sbs = let r = damped n (theta sbs (dot n s y)) y bs in revised n p r bs (dot n s r) sbs

-- s'_bs <= 0 leaves B; a NaN s'_bs does not
unfoldable pub update : ℕ → (p s y : List Float) → List Float
update n p s y =
    let bs = times n p s in
    let sbs = dot n s bs in
    cond (le sbs +0) p (curved n p s y bs sbs)
