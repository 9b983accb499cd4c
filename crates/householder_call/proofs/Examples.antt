-- The factors of some matrices, by computing.
use mathlib.Core.Path.{◌≡◌, refl}
use mathlib.Core.List.{[], ◌∷◌}
use Prim.Native.Nat.{ℕ}
use lib.Count.{count_trailing_zeros}
use lib.Ieee.{Float, add, sub, mul, div, neg, lt, le, eq, is_nan, sum, round, size, units, odd, span, climb}
use Rattle.numbers.specs.Numbers.{+0, near, Σ, tab, dot, rows, grid, row, column, transposed}
use Rattle.numbers.specs.Root.{floor_root, root_of, sqrt_of}
use Rattle.norms.specs.Norm.{plain_norm, scaled, has_nan, has_inf, largest, reduced, rescaled, norm}
use Rattle.householder.specs.Qr.{along, image, column_norm, pivot, swapped, reflector, pinned, advance, steps, factor}

abbrev plus : ℕ → Float
plus n = near n 1

abbrev minus : ℕ → Float
minus n = neg (near n 1)

empty : factor 0 0 [] ≡ record { rank = 0; r = []; perm = []; u = []; b = [] }
unfolding factor steps tab
empty = refl

-- [2]: the head is above zero, so R is [-2]
one_entry : factor 1 1 (plus 2 ∷ []) ≡ record { rank = 1; r = minus 2 ∷ []; perm = 0 ∷ []; u = plus 4 ∷ []; b = minus 8 ∷ [] }
unfolding add sub mul div neg lt le eq is_nan sum round size units odd span climb count_trailing_zeros Σ tab dot rows grid row column transposed floor_root root_of sqrt_of norm rescaled reduced plain_norm scaled largest has_nan has_inf along image column_norm pivot swapped reflector pinned advance steps factor
one_entry = refl

-- [0]: a norm of zero is at most the tolerance of zero, and nothing is done
no-entry : factor 1 1 (+0 ∷ []) ≡ record { rank = 0; r = +0 ∷ []; perm = 0 ∷ []; u = +0 ∷ []; b = +0 ∷ [] }
unfolding add sub mul div neg lt le eq is_nan sum round size units odd span climb count_trailing_zeros Σ tab dot rows grid row column transposed floor_root root_of sqrt_of norm rescaled reduced plain_norm scaled largest has_nan has_inf along image column_norm pivot swapped reflector pinned advance steps factor
no-entry = refl

-- [3 5; 4 0]: both columns have the norm 5, and the first is taken; then the head is below zero
tied : factor 2 2 (plus 3 ∷ plus 5 ∷ plus 4 ∷ +0 ∷ [])
    ≡ record {
      rank = 2;
      r = minus 5 ∷ minus 3 ∷ +0 ∷ plus 4 ∷ [];
      perm = 0 ∷ 1 ∷ [];
      u = plus 8 ∷ plus 4 ∷ +0 ∷ minus 8 ∷ [];
      b = minus 40 ∷ minus 32 ∷ [];
    }
unfolding add sub mul div neg lt le eq is_nan sum round size units odd span climb count_trailing_zeros Σ tab dot rows grid row column transposed floor_root root_of sqrt_of norm rescaled reduced plain_norm scaled largest has_nan has_inf along image column_norm pivot swapped reflector pinned advance steps factor
tied = refl

-- [0 3 6; 0 4 8; 0 0 0]: the last column comes first, and the others have nothing left
lost : factor 3 3 (+0 ∷ plus 3 ∷ plus 6 ∷ +0 ∷ plus 4 ∷ plus 8 ∷ +0 ∷ +0 ∷ +0 ∷ [])
    ≡ record {
      rank = 1;
      r = minus 10 ∷ minus 5 ∷ +0 ∷ +0 ∷ +0 ∷ +0 ∷ +0 ∷ +0 ∷ +0 ∷ [];
      perm = 2 ∷ 1 ∷ 0 ∷ [];
      u = plus 16 ∷ plus 8 ∷ +0 ∷ +0 ∷ +0 ∷ +0 ∷ +0 ∷ +0 ∷ +0 ∷ [];
      b = minus 160 ∷ +0 ∷ +0 ∷ [];
    }
unfolding add sub mul div neg lt le eq is_nan sum round size units odd span climb count_trailing_zeros Σ tab dot rows grid row column transposed floor_root root_of sqrt_of norm rescaled reduced plain_norm scaled largest has_nan has_inf along image column_norm pivot swapped reflector pinned advance steps factor
lost = refl
