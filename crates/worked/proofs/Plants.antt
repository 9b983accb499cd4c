-- The worked plants hold of the definitions.
use mathlib.Core.Path.{◌≡◌, refl}
use mathlib.Core.List.{map}
use lib.Count.{count_trailing_zeros}
use lib.Ieee.{add, sub, mul, div, neg, lt, le, eq, is_nan, sum, round, size, units, odd, span, climb, of_bits}
use Rattle.numbers.specs.Numbers.{Σ, tab, dot, rows, grid, row, column, transposed}
use Rattle.numbers.specs.Root.{floor_root, root_of, sqrt_of}
use Rattle.norms.specs.Norm.{plain_norm, scaled, has_nan, has_inf, reduced, rescaled, norm}
use Rattle.norms.specs.Norm as Norm
use Rattle.householder.specs.Qr.{along, image, column_norm, pivot, swapped, reflector, pinned, advance, steps, factor, forth, apply_qt, downward, solve_rt}
use Rattle.suspect.specs.Suspect.{weights, are_finite, scaled_gaps, unit, directions, overlap, is_outside, unseen, correction, new_spread, test_of, square_of, tie_of, shares, new_spreads, tests, largest, are_within, group_of, groups, mark_of, marks, limits, finding_of, tests_from, suspect}
use Rattle.suspect_call.specs.Promise.{meters}
use Rattle.worked.specs.WorkedPlants.{with_plant, plants, same_flow, thrice_one_flow}

pub worked-plants : map with_plant plants ≡ plants
unfolding add sub mul div neg lt le eq is_nan sum round size units odd span climb count_trailing_zeros Σ tab dot rows grid row column transposed floor_root root_of sqrt_of norm rescaled reduced plain_norm scaled Norm.largest has_nan has_inf along image column_norm pivot swapped reflector pinned advance steps factor forth apply_qt downward solve_rt of_bits weights are_finite scaled_gaps unit directions overlap is_outside unseen correction new_spread test_of square_of tie_of shares new_spreads tests largest are_within group_of groups mark_of marks limits finding_of tests_from suspect meters
worked-plants = refl

pub worked-same-flow : with_plant same_flow ≡ same_flow
unfolding add sub mul div neg lt le eq is_nan sum round size units odd span climb count_trailing_zeros Σ tab dot rows grid row column transposed floor_root root_of sqrt_of norm rescaled reduced plain_norm scaled Norm.largest has_nan has_inf along image column_norm pivot swapped reflector pinned advance steps factor forth apply_qt downward solve_rt of_bits weights are_finite scaled_gaps unit directions overlap is_outside unseen correction new_spread test_of square_of tie_of shares new_spreads tests largest are_within group_of groups mark_of marks limits finding_of tests_from suspect meters
worked-same-flow = refl

pub worked-thrice : with_plant thrice_one_flow ≡ thrice_one_flow
unfolding add sub mul div neg lt le eq is_nan sum round size units odd span climb count_trailing_zeros Σ tab dot rows grid row column transposed floor_root root_of sqrt_of norm rescaled reduced plain_norm scaled Norm.largest has_nan has_inf along image column_norm pivot swapped reflector pinned advance steps factor forth apply_qt downward solve_rt of_bits weights are_finite scaled_gaps unit directions overlap is_outside unseen correction new_spread test_of square_of tie_of shares new_spreads tests largest are_within group_of groups mark_of marks limits finding_of tests_from suspect meters
worked-thrice = refl
