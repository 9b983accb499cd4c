-- What the functions that write a problem's rows into the workspace leave: it serves their contracts alone. Definitions only.
use Rattle.std.specs.Prelude.{ℕ, ◌+◌, ◌*◌, ◌<◌, ◌≡◌, List, [], ◌∷◌, ◌++◌, Float}
use Rattle.numbers.specs.Numbers.{at, tab}
use Rattle.workspace.specs.Readings.{vec}
use Rattle.step_rows.specs.Problem.{Row, row_of, by_kind}

-- the c rows that begin at o, o + 18, ..: n coefficients each, and the side behind them
unfoldable pub rows_in : (o n c : ℕ) → List Float → List Row
rows_in o n c w = tab c (λ i. row_of (vec (o + i * 18) n w) (at w (o + i * 18 + n)))

-- behind k rows at o the rows rs were pushed, which makes c, and what stands before o is as it was
pub record Pushed (o n k c : ℕ) (rs : List Row) (w w' : List Float) : Type 0 where
  pub rows : rows_in o n c w' ≡ rows_in o n k w ++ rs
  pub before : (x : ℕ) → x < o → at w' x ≡ at w x

-- how many of some constraints are equalities, how many floors they have, a band two, and how many rows they become in the relaxed problem
unfoldable pub equalities_among : List ℕ → ℕ
equalities_among [] = 0
equalities_among (k ∷ ks) = by_kind k 1 0 0 + equalities_among ks

unfoldable pub floors_among : List ℕ → ℕ
floors_among [] = 0
floors_among (k ∷ ks) = by_kind k 0 1 2 + floors_among ks

unfoldable pub relaxed_among : List ℕ → ℕ
relaxed_among [] = 0
relaxed_among (k ∷ ks) = by_kind k 2 1 2 + relaxed_among ks
