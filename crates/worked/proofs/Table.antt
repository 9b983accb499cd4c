-- The worked cases hold of the definitions.
use mathlib.Core.Path.{◌≡◌, refl}
use mathlib.Core.List.{map}
use lib.Count.{count_trailing_zeros}
use lib.Ieee.{add, sub, mul, div, neg, lt, le, eq, is_nan, sum, round, size, units, odd, span, climb}
use Rattle.numbers.specs.Numbers.{Σ, tab, dot, gather, scatter, rows, grid, row, column, transposed}
use Rattle.numbers.specs.Root.{floor_root, root_of, sqrt_of}
use Rattle.norms.specs.Norm.{plain_norm, scaled, has_nan, has_inf, largest, reduced, rescaled, norm}
use Rattle.householder.specs.Qr.{along, image, column_norm, pivot, swapped, reflector, pinned, advance, steps, factor, forth, back, apply_qt, apply_q, upward, solve_r, downward, solve_rt, solve}
use Rattle.nnls_passive.specs.Passive.{members, solve_of}
use Rattle.nnls.specs.Nnls.{residual, dual_of, choose, ratio_of, ranks_before, blocking, step_to, next_x, next_mark, move_x, move_p, judge, try_next, tries, turn_next, turns, lastly, pass, round_next, rounds, active_set, nnls}
use Rattle.lsei.specs.Lsei.{dual_matrix, dual_side, dual_residual, primal, ldp, reduced_rows, reduced_sides, restored, lsi_from, lsi, fixed, turned, tail_of, shifted, gradient, equality_multipliers, rejoined, lsei_from, lsei}
use Rattle.hessian.specs.Hessian.{identity, times, remainder, with_row, next_row, first_rows, cholesky, theta, damped, revised, curved, update}
use Rattle.step_rows.specs.Problem.{matrix_of, sides_of, each, unit, bound_rows, equality_rows, inequality_rows, opposed_rows, loosened_row, delta_rows, relaxed_rows}
use Rattle.step.specs.Step.{weight, root_weight, target, in_order, exact_step, exact, relaxed_matrix, paired, clamped, relaxed_step, relaxed, step}
use Rattle.step_call.specs.Promise.{are_kinds, are_widths}
use Rattle.worked.specs.Worked.{with_answer, table, others}

pub worked : map with_answer table ≡ table
unfolding add sub mul div neg lt le eq is_nan sum round size units odd span climb count_trailing_zeros Σ tab dot gather scatter rows grid row column transposed floor_root root_of sqrt_of norm rescaled reduced plain_norm scaled largest has_nan has_inf along image column_norm pivot swapped reflector pinned advance steps factor forth back apply_qt apply_q upward solve_r downward solve_rt solve residual dual_of members solve_of choose ratio_of ranks_before blocking step_to next_x next_mark move_x move_p judge try_next tries turn_next turns lastly pass round_next rounds active_set nnls dual_matrix dual_side dual_residual primal ldp reduced_rows reduced_sides restored lsi_from lsi fixed turned tail_of shifted gradient equality_multipliers rejoined lsei_from lsei identity times remainder with_row next_row first_rows cholesky theta damped revised curved update matrix_of sides_of each unit bound_rows equality_rows inequality_rows opposed_rows loosened_row delta_rows relaxed_rows target in_order exact_step exact relaxed_matrix paired clamped relaxed_step relaxed step are_kinds are_widths
worked = refl

pub others-too : map with_answer others ≡ others
unfolding add sub mul div neg lt le eq is_nan sum round size units odd span climb count_trailing_zeros Σ tab dot gather scatter rows grid row column transposed floor_root root_of sqrt_of norm rescaled reduced plain_norm scaled largest has_nan has_inf along image column_norm pivot swapped reflector pinned advance steps factor forth back apply_qt apply_q upward solve_r downward solve_rt solve residual dual_of members solve_of choose ratio_of ranks_before blocking step_to next_x next_mark move_x move_p judge try_next tries turn_next turns lastly pass round_next rounds active_set nnls dual_matrix dual_side dual_residual primal ldp reduced_rows reduced_sides restored lsi_from lsi fixed turned tail_of shifted gradient equality_multipliers rejoined lsei_from lsei identity times remainder with_row next_row first_rows cholesky theta damped revised curved update matrix_of sides_of each unit bound_rows equality_rows inequality_rows opposed_rows loosened_row delta_rows relaxed_rows target in_order exact_step exact relaxed_matrix paired clamped relaxed_step relaxed step are_kinds are_widths
others-too = refl

-- the root of RELAXATION_WEIGHT is exactly 1000
pub weight-root : sqrt_of weight ≡ root_weight
unfolding add sub mul div neg lt le eq is_nan sum round size units odd span climb count_trailing_zeros Σ tab dot gather scatter rows grid row column transposed floor_root root_of sqrt_of norm rescaled reduced plain_norm scaled largest has_nan has_inf along image column_norm pivot swapped reflector pinned advance steps factor forth back apply_qt apply_q upward solve_r downward solve_rt solve residual dual_of members solve_of choose ratio_of ranks_before blocking step_to next_x next_mark move_x move_p judge try_next tries turn_next turns lastly pass round_next rounds active_set nnls dual_matrix dual_side dual_residual primal ldp reduced_rows reduced_sides restored lsi_from lsi fixed turned tail_of shifted gradient equality_multipliers rejoined lsei_from lsei identity times remainder with_row next_row first_rows cholesky theta damped revised curved update matrix_of sides_of each unit bound_rows equality_rows inequality_rows opposed_rows loosened_row delta_rows relaxed_rows target in_order exact_step exact relaxed_matrix paired clamped relaxed_step relaxed step are_kinds are_widths
weight-root = refl
