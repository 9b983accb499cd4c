-- The worked days hold of the definitions.
use mathlib.Core.Path.{◌≡◌, refl}
use mathlib.Core.List.{map}
use lib.Count.{count_trailing_zeros}
use lib.Ieee.{add, sub, mul, div, neg, lt, le, eq, is_nan, sum, round, size, units, odd, span, climb, of_bits}
use Rattle.numbers.specs.Numbers.{Σ, tab, dot, gather, scatter, rows, grid, row, column, transposed}
use Rattle.numbers.specs.Root.{floor_root, root_of, sqrt_of}
use Rattle.norms.specs.Norm.{plain_norm, scaled, has_nan, has_inf, largest, reduced, rescaled, norm}
use Rattle.nnls_passive.specs.Passive.{members, solve_of}
use Rattle.lsei.specs.Lsei.{dual_matrix, dual_side, dual_residual, primal, ldp, reduced_rows, reduced_sides, restored, lsi_from, lsi, fixed, turned, tail_of, shifted, gradient, equality_multipliers, rejoined, lsei_from, lsei}
use Rattle.householder.specs.Qr.{along, image, column_norm, pivot, swapped, reflector, pinned, advance, steps, factor, forth, back, apply_qt, apply_q, upward, solve_r, downward, solve_rt, solve}
use Rattle.nnls.specs.Nnls.{residual, dual_of, choose, ratio_of, ranks_before, blocking, step_to, next_x, next_mark, move_x, move_p, judge, try_next, tries, turn_next, turns, lastly, pass, round_next, rounds, active_set, nnls}
use Rattle.totaliser.specs.Volume.{volume}
use Rattle.reconcile.specs.Day.{scales, targets, identity, corrected, named}
use Rattle.reconcile_call.specs.Promise.{meters}
use Rattle.worked.specs.WorkedDays.{with_day, days, header_day}

pub worked-days : map with_day days ≡ days
unfolding add sub mul div neg lt le eq is_nan sum round size units odd span climb count_trailing_zeros Σ tab dot gather scatter rows grid row column transposed floor_root root_of sqrt_of norm rescaled reduced plain_norm scaled largest has_nan has_inf along image column_norm pivot swapped reflector pinned advance steps factor forth back apply_qt apply_q upward solve_r downward solve_rt solve residual dual_of members solve_of choose ratio_of ranks_before blocking step_to next_x next_mark move_x move_p judge try_next tries turn_next turns lastly pass round_next rounds active_set nnls dual_matrix dual_side dual_residual primal ldp reduced_rows reduced_sides restored lsi_from lsi fixed turned tail_of shifted gradient equality_multipliers rejoined lsei_from lsei of_bits volume scales targets identity corrected named meters
worked-days = refl

pub worked-header : with_day header_day ≡ header_day
unfolding add sub mul div neg lt le eq is_nan sum round size units odd span climb count_trailing_zeros Σ tab dot gather scatter rows grid row column transposed floor_root root_of sqrt_of norm rescaled reduced plain_norm scaled largest has_nan has_inf along image column_norm pivot swapped reflector pinned advance steps factor forth back apply_qt apply_q upward solve_r downward solve_rt solve residual dual_of members solve_of choose ratio_of ranks_before blocking step_to next_x next_mark move_x move_p judge try_next tries turn_next turns lastly pass round_next rounds active_set nnls dual_matrix dual_side dual_residual primal ldp reduced_rows reduced_sides restored lsi_from lsi fixed turned tail_of shifted gradient equality_multipliers rejoined lsei_from lsei of_bits volume scales targets identity corrected named meters
worked-header = refl
