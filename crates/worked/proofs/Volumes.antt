-- The worked volumes hold of the definitions.
use mathlib.Core.Path.{◌≡◌, refl, ap}
use mathlib.Core.List.{map}
use lib.Count.{count_trailing_zeros}
use lib.Ieee.{add, sub, mul, div, neg, lt, le, eq, is_nan, sum, round, size, units, odd, span, climb, of_bits, to_bits}
use Rattle.numbers.specs.Numbers.{Σ, tab, dot, gather, scatter, rows, grid, row, column, transposed}
use Rattle.numbers.specs.Root.{floor_root, root_of, sqrt_of}
use Rattle.norms.specs.Norm.{plain_norm, scaled, has_nan, has_inf, largest, reduced, rescaled, norm}
use Rattle.nnls_passive.specs.Passive.{members, solve_of}
use Rattle.lsei.specs.Lsei.{dual_matrix, dual_side, dual_residual, primal, ldp, reduced_rows, reduced_sides, restored, lsi_from, lsi, fixed, turned, tail_of, shifted, gradient, equality_multipliers, rejoined, lsei_from, lsei}
use Rattle.householder.specs.Qr as qr
use Rattle.nnls.specs.Nnls as nn
use Rattle.reconcile.specs.Day.{scales, identity}
use Rattle.interval.specs.Next.{after, next_up, next_down}
use Rattle.interval.specs.Intervals.{larger, smaller, div_up, point, plus, minus, times, product, sum_within, sum_up}
use Rattle.certain.specs.Bound.{all_below, are_finite, are_positive, none_negative, day_finite, report_finite, row_within, pull_within, fit_term, open_term, slack_term, fit_up, open_up, slack_up, fourfold, reach_up, bound, closes, keeps, kept}
use Rattle.settle.specs.Settle.{targets, first, first_of, positives, held_rows, held_sides, pinned, is_own, owned, witness, pinned_of, without, tries, second, chosen, settled}
use Rattle.settle.specs.Days.{within, vent, twice, distant}
use Rattle.settle.proofs.Days.{days-settled}
use Rattle.settle_call.specs.Promise.{in_turn}
use Rattle.worked.specs.WorkedVolumes.{SETTLE, with_volumes, refused_by_tests, refused_days, settled_days, certified_days, pinned_volumes, twice_volumes, distant_volumes, distant_again}

pub worked-tests : map with_volumes refused_by_tests ≡ refused_by_tests
unfolding lt le round size units odd span climb count_trailing_zeros of_bits in_turn
worked-tests = refl

pub worked-refused : map with_volumes refused_days ≡ refused_days
unfolding add sub mul div neg lt le eq is_nan sum round size units odd span climb count_trailing_zeros Σ tab dot gather scatter rows grid row column transposed floor_root root_of sqrt_of norm rescaled reduced plain_norm scaled largest has_nan has_inf qr.along qr.image qr.column_norm qr.pivot qr.swapped qr.reflector qr.pinned qr.advance qr.steps qr.factor qr.forth qr.back qr.apply_qt qr.apply_q qr.upward qr.solve_r qr.downward qr.solve_rt qr.solve nn.residual nn.dual_of members solve_of nn.choose nn.ratio_of nn.ranks_before nn.blocking nn.step_to nn.next_x nn.next_mark nn.move_x nn.move_p nn.judge nn.try_next nn.tries nn.turn_next nn.turns nn.lastly nn.pass nn.round_next nn.rounds nn.active_set nn.nnls dual_matrix dual_side dual_residual primal ldp reduced_rows reduced_sides restored lsi_from lsi fixed turned tail_of shifted gradient equality_multipliers rejoined lsei_from lsei of_bits to_bits scales identity after next_up next_down larger smaller div_up point plus minus times product sum_within sum_up all_below are_finite are_positive none_negative day_finite report_finite row_within pull_within fit_term open_term slack_term fit_up open_up slack_up fourfold reach_up bound closes keeps kept targets first first_of positives held_rows held_sides pinned is_own owned witness pinned_of without tries second chosen settled in_turn
worked-refused = refl

pub worked-settled : map with_volumes settled_days ≡ settled_days
unfolding add sub mul div neg lt le eq is_nan sum round size units odd span climb count_trailing_zeros Σ tab dot gather scatter rows grid row column transposed floor_root root_of sqrt_of norm rescaled reduced plain_norm scaled largest has_nan has_inf qr.along qr.image qr.column_norm qr.pivot qr.swapped qr.reflector qr.pinned qr.advance qr.steps qr.factor qr.forth qr.back qr.apply_qt qr.apply_q qr.upward qr.solve_r qr.downward qr.solve_rt qr.solve nn.residual nn.dual_of members solve_of nn.choose nn.ratio_of nn.ranks_before nn.blocking nn.step_to nn.next_x nn.next_mark nn.move_x nn.move_p nn.judge nn.try_next nn.tries nn.turn_next nn.turns nn.lastly nn.pass nn.round_next nn.rounds nn.active_set nn.nnls dual_matrix dual_side dual_residual primal ldp reduced_rows reduced_sides restored lsi_from lsi fixed turned tail_of shifted gradient equality_multipliers rejoined lsei_from lsei of_bits to_bits scales identity after next_up next_down larger smaller div_up point plus minus times product sum_within sum_up all_below are_finite are_positive none_negative day_finite report_finite row_within pull_within fit_term open_term slack_term fit_up open_up slack_up fourfold reach_up bound closes keeps kept targets first first_of positives held_rows held_sides pinned is_own owned witness pinned_of without tries second chosen settled in_turn
worked-settled = refl

pub worked-certified : map with_volumes certified_days ≡ certified_days
unfolding add sub mul div neg lt le eq is_nan sum round size units odd span climb count_trailing_zeros rows row floor_root root_of sqrt_of of_bits to_bits identity after next_up next_down larger smaller div_up point plus minus times product sum_within sum_up all_below are_finite are_positive none_negative day_finite report_finite row_within pull_within fit_term open_term slack_term fit_up open_up slack_up fourfold reach_up bound in_turn grid tab
worked-certified = refl

-- the tests pass, and behind them is what `settle` evaluates
pub worked-pinned : with_volumes pinned_volumes ≡ pinned_volumes
unfolding in_turn lt le round size units odd span climb count_trailing_zeros of_bits identity rows row grid tab
worked-pinned = ap (SETTLE 8192 vent within) days-settled.0

pub worked-twice : with_volumes twice_volumes ≡ twice_volumes
unfolding in_turn lt le round size units odd span climb count_trailing_zeros of_bits identity rows row grid tab
worked-twice = ap (SETTLE 8192 twice within) days-settled.1

pub worked-distant : with_volumes distant_volumes ≡ distant_volumes
unfolding in_turn lt le round size units odd span climb count_trailing_zeros of_bits identity rows row grid tab
worked-distant = ap (SETTLE 8192 distant within) days-settled.2

pub worked-again : with_volumes distant_again ≡ distant_again
unfolding add sub mul div neg lt le eq is_nan sum round size units odd span climb count_trailing_zeros rows row floor_root root_of sqrt_of of_bits to_bits identity after next_up next_down larger smaller div_up point plus minus times product sum_within sum_up all_below are_finite are_positive none_negative day_finite report_finite row_within pull_within fit_term open_term slack_term fit_up open_up slack_up fourfold reach_up bound in_turn grid tab
worked-again = refl
