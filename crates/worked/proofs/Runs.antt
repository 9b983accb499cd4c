-- The worked searches hold of the definitions.
use mathlib.Core.Path.{◌≡◌, refl}
use mathlib.Core.List.{map}
use lib.Count.{count_trailing_zeros}
use lib.Ieee.{add, sub, mul, div, neg, lt, le, eq, is_nan, sum, round, size, units, odd, span, climb}
use Rattle.numbers.specs.Numbers.{Σ, tab, dot, gather, scatter, rows, grid, row, column, transposed}
use Rattle.numbers.specs.Root.{floor_root, root_of, sqrt_of}
use Rattle.norms.specs.Norm.{plain_norm, scaled, has_nan, has_inf, largest, reduced, rescaled, norm}
use Rattle.householder.specs.Qr.{along, image, column_norm, pivot, swapped, reflector, pinned, advance, steps, factor, forth, back, apply_qt, apply_q, upward, solve_r, downward, solve_rt, solve}
use Rattle.nnls_passive.specs.Passive.{members, solve_of}
use Rattle.nnls.specs.Nnls.{residual, dual_of, choose, ratio_of, ranks_before, blocking, step_to, next_x, next_mark, move_x, move_p, judge, try_next, tries, turn_next, turns, lastly, pass, round_next, rounds, active_set, nnls}
use Rattle.lsei.specs.Lsei.{dual_matrix, dual_side, dual_residual, primal, ldp, reduced_rows, reduced_sides, restored, lsi_from, lsi, fixed, turned, tail_of, shifted, gradient, equality_multipliers, rejoined, lsei_from, lsei}
use Rattle.hessian.specs.Hessian.{identity, times, remainder, with_row, next_row, first_rows, cholesky, theta, damped, revised, curved, update}
use Rattle.step_rows.specs.Problem.{matrix_of, sides_of, each, unit, bound_rows, equality_rows, inequality_rows, opposed_rows, loosened_row, delta_rows, relaxed_rows}
use Rattle.step.specs.Step.{target, in_order, exact_step, exact, relaxed_matrix, paired, clamped, relaxed_step, relaxed, step}
use Rattle.search.specs.Setup.{are_finite}
use Rattle.search.specs.Turn as Turn
use Rattle.search.specs.Machine as Machine
use Rattle.worked.specs.WorkedRuns.{with_standing, runs}

pub worked-runs : map with_standing runs ≡ runs
unfolding add sub mul div neg lt le eq is_nan sum round size units odd span climb count_trailing_zeros Σ tab dot gather scatter rows grid row column transposed floor_root root_of sqrt_of norm rescaled reduced plain_norm scaled largest has_nan has_inf along image column_norm pivot swapped reflector pinned advance steps factor forth back apply_qt apply_q upward solve_r downward solve_rt solve residual dual_of members solve_of choose ratio_of ranks_before blocking step_to next_x next_mark move_x move_p judge try_next tries turn_next turns lastly pass round_next rounds active_set nnls dual_matrix dual_side dual_residual primal ldp reduced_rows reduced_sides restored lsi_from lsi fixed turned tail_of shifted gradient equality_multipliers rejoined lsei_from lsei identity times remainder with_row next_row first_rows cholesky theta damped revised curved update matrix_of sides_of each unit bound_rows equality_rows inequality_rows opposed_rows loosened_row delta_rows relaxed_rows target in_order exact_step exact relaxed_matrix paired clamped relaxed_step relaxed step are_finite Turn.magnitude Turn.larger Turn.negative Turn.clip Turn.clipped Turn.violations Turn.largest Turn.max_violation Turn.merit Turn.model_of Turn.complementarity Turn.penalties Turn.line_of Turn.is_still Turn.stepped Turn.factored Turn.opened Turn.along Turn.is_enough Turn.shorter Turn.lagrangian_at Turn.lagrangian Turn.moved Turn.is_settled Turn.move_of Turn.raise Turn.lower Machine.turn_next Machine.move_next Machine.judge_next Machine.tell Machine.begin Machine.tell_all
worked-runs = refl
