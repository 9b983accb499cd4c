-- What the functions that assemble a problem, and read its answer, are handed and leave: it serves their contracts alone. Definitions only.
use Rattle.std.specs.Prelude.{ℕ, ◌+◌, cond, List, leb, Float}
use Rattle.numbers.specs.Numbers.{+0, entry, grid}

-- the relaxed problem's matrix before its last column: the upper triangle of L', with one row of +0 below it
unfoldable pub triangle : ℕ → List Float → List Float
triangle n factor = grid (n + 1) n (λ i j. cond (leb i j) (entry n factor j i) +0)
