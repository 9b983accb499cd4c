-- What B is updated with, read from the machine's slice: it serves the contracts of inner functions alone. Definitions only.
use Rattle.std.specs.Prelude.{ℕ, suc, ◌+◌, ◌*◌, List, Float}
use Rattle.numbers.specs.Numbers.{at, tab, ◌⊖◌}
use Rattle.workspace.specs.Readings.{vec}
use Rattle.search.specs.Places.{SEARCH_ALL_SLOPES, SEARCH_MULTIPLIERS, SEARCH_NEW_X, SEARCH_X}
use Rattle.search.specs.Turn.{lagrangian_at}

-- s: the move from the accepted point to the new one
unfoldable pub move_in : (n : ℕ) → List Float → List Float
move_in n f = tab n (λ i. at f (SEARCH_NEW_X + i) ⊖ at f (SEARCH_X + i))

-- y: the change of the gradient of the Lagrangian, to the slopes at the front of w
unfoldable pub change_in : (n m : ℕ) → (f w : List Float) → List Float
change_in n m f w = tab n (λ i. lagrangian_at n (vec 0 (suc m * n) w) (vec SEARCH_MULTIPLIERS m f) i m ⊖ lagrangian_at n (vec SEARCH_ALL_SLOPES (suc m * n) f) (vec SEARCH_MULTIPLIERS m f) i m)
