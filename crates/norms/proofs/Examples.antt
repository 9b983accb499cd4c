-- The norm worked out on a few lists.
use mathlib.Core.Path.{◌≡◌, refl}
use mathlib.Core.Bool.{true, false}
use mathlib.Core.List.{[], ◌∷◌}
use lib.IntN.{pos, negsuc}
use lib.Count.{count_trailing_zeros}
use lib.Ieee.{nan, inf, fin, is_nan, size, span, climb, units, odd, round, sum, add, mul}
use Rattle.numbers.specs.Numbers.{+0, -0, Σ, tab, dot}
use Rattle.numbers.specs.Root.{floor_root, root_of, sqrt_of}
use Rattle.norms.specs.Norm.{plain_norm, scaled, has_nan, has_inf, largest, reduced, rescaled, norm}

-- 3 and 4, as they are, times 2 ^ -600, whose squares vanish, and times 2 ^ 600, whose squares overflow
five : norm (fin false 3 (pos 0) ∷ fin false 1 (pos 2) ∷ []) ≡ fin false 5 (pos 0)
unfolding norm rescaled reduced plain_norm scaled largest has_nan has_inf is_nan tab dot sqrt_of root_of floor_root round units span climb count_trailing_zeros size odd Σ mul add sum
five = refl

small-five : norm (fin false 3 (negsuc 599) ∷ fin true 1 (negsuc 597) ∷ []) ≡ fin false 5 (negsuc 599)
unfolding norm rescaled reduced plain_norm scaled largest has_nan has_inf is_nan tab dot sqrt_of root_of floor_root round units span climb count_trailing_zeros size odd Σ mul add sum
small-five = refl

large-five : norm (fin true 3 (pos 600) ∷ fin false 1 (pos 602) ∷ []) ≡ fin false 5 (pos 600)
unfolding norm rescaled reduced plain_norm scaled largest has_nan has_inf is_nan tab dot sqrt_of root_of floor_root round units span climb count_trailing_zeros size odd Σ mul add sum
large-five = refl

-- the plain norms of the last two
vanishes : plain_norm (fin false 3 (negsuc 599) ∷ fin true 1 (negsuc 597) ∷ []) ≡ +0
unfolding plain_norm dot sqrt_of root_of floor_root round units span climb count_trailing_zeros size odd Σ mul add sum
vanishes = refl

overflows : plain_norm (fin true 3 (pos 600) ∷ fin false 1 (pos 602) ∷ []) ≡ inf false
unfolding plain_norm dot sqrt_of root_of floor_root round units span climb count_trailing_zeros size odd Σ mul add sum
overflows = refl

-- no entry, zeros, the smallest f64, a NaN beside an infinity, an infinity, and the largest f64 twice
empty : norm [] ≡ +0
unfolding norm largest has_nan has_inf
empty = refl

zeros : norm (-0 ∷ -0 ∷ []) ≡ +0
unfolding norm rescaled reduced plain_norm scaled largest has_nan has_inf is_nan
zeros = refl

smallest : norm (fin true 1 (negsuc 1073) ∷ []) ≡ fin false 1 (negsuc 1073)
unfolding norm rescaled reduced plain_norm scaled largest has_nan has_inf is_nan tab dot sqrt_of root_of floor_root round units span climb count_trailing_zeros size odd Σ mul add sum
smallest = refl

not-a-number : norm (inf true ∷ nan ∷ []) ≡ nan
unfolding norm rescaled reduced plain_norm scaled largest has_nan has_inf is_nan
not-a-number = refl

infinite : norm (+0 ∷ inf true ∷ []) ≡ inf false
unfolding norm rescaled reduced plain_norm scaled largest has_nan has_inf is_nan
infinite = refl

twice-largest : norm (fin false 9007199254740991 (pos 971) ∷ fin false 9007199254740991 (pos 971) ∷ []) ≡ inf false
unfolding norm rescaled reduced plain_norm scaled largest has_nan has_inf is_nan tab dot sqrt_of root_of floor_root round units span climb count_trailing_zeros size odd Σ mul add sum
twice-largest = refl
