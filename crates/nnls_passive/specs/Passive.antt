-- The solve on the passive columns of nonnegative least squares (docs/RULES.md, "Nonnegative least squares"). Definitions only.
-- Columns are numbered from 0 to n - 1. A list of marks has 0 for each column that is out, and 1 for each that is in.
use Rattle.std.specs.Prelude.{ℕ, zero, suc, Bool, not, cond, List, [], ◌∷◌, ◌++◌, eqb, length, replicate, Float}
use Rattle.numbers.specs.Numbers.{+0, nth, scatter, entry, grid}
use Rattle.householder.specs.Qr.{factor, solve}

-- column j is marked
abbrev pub is_in : List ℕ → ℕ → Bool
is_in marks j = not (eqb (nth marks j) 0)

-- z, and whether the passive columns have full rank
pub record Solved : Type 0 where
  pub z : List Float
  pub full : Bool

-- the marked ones of the first n columns, in order
unfoldable pub members : List ℕ → ℕ → List ℕ
members p zero = []
members p (suc j) = cond (is_in p j) (members p j ++ (j ∷ [])) (members p j)

-- the basic solution on the passive columns, and +0 at the others
unfoldable pub solve_of : (m n : ℕ) (a b : List Float) → List ℕ → Solved
solve_of m n a b p =
    let js = members p n in
    let c = length js in
    let f = factor m c (grid m c (λ i t. entry n a i (nth js t))) in
    record { z = scatter c js (solve m c f b) (replicate n +0); full = eqb f.rank c }
