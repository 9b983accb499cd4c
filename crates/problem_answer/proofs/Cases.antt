-- The cases hold of the definitions.
use mathlib.Core.Path.{◌≡◌, refl}
use mathlib.Core.List.{map}
use lib.Ieee.{add, sub, mul, div, neg, lt, le, eq, is_nan, sum, round, size, units, odd, span, climb, of_bits, of_fields, to_bits}
use lib.Count.{count_trailing_zeros}
use Rattle.numbers.specs.Numbers.{Σ, tab, dot, gather, scatter, rows, grid, row, column, transposed}
use Rattle.numbers.specs.Root.{floor_root, root_of, sqrt_of}
use Rattle.norms.specs.Norm.{plain_norm, scaled, has_nan, has_inf, largest, reduced, rescaled, norm}
use Rattle.nnls.specs.Nnls.{residual, dual_of, choose, ratio_of, ranks_before, blocking, step_to, next_x, next_mark, move_x, move_p, judge, try_next, tries, turn_next, turns, lastly, pass, round_next, rounds, active_set, nnls}
use Rattle.step_rows.specs.Problem.{matrix_of, sides_of, each, unit, bound_rows, equality_rows, inequality_rows, opposed_rows, loosened_row, delta_rows, relaxed_rows}
use Rattle.step.specs.Step.{target, in_order, exact_step, exact, relaxed_matrix, paired, clamped, relaxed_step, relaxed, step}
use Rattle.endian.specs.Little.{little, bytes}
use Rattle.step_call.specs.Promise.{are_widths}
use Rattle.step_call.specs.Strict.{bounds}
use Rattle.problem_read.specs.Bits.{numbers_of}
use Rattle.problem_read.specs.Input.{spare_zero, is_inside, given, is_sound, table, given_bits, all_below, is_complete, walk, is_head, decode, read_numbers}
use Rattle.nnls_passive.specs.Passive.{members, solve_of}
use Rattle.householder.specs.Qr.{along, image, column_norm, pivot, swapped, reflector, pinned, advance, steps, factor, forth, back, apply_qt, apply_q, upward, solve_r, downward, solve_rt, solve}
use Rattle.lsei.specs.Lsei.{dual_matrix, dual_side, dual_residual, primal, ldp, reduced_rows, reduced_sides, restored, lsi_from, lsi, fixed, turned, tail_of, shifted, gradient, equality_multipliers, rejoined, lsei_from, lsei}
use Rattle.ascii.specs.Text.{ascii, decimal_from, decimal_text}
use Rattle.problem_answer.specs.Text.{float_text, line_text, lines_text}
use Rattle.problem_answer.specs.Program.{fault_text, refused_text, done_text, program_text}
use Rattle.problem_answer.specs.Cases.{with_text, spared, rule_case, fault_cases, size_cases, step_cases, bound_cases, CasesHold}

faults-hold : map with_text fault_cases ≡ fault_cases
unfolding bytes spared program_text decode is_head spare_zero little walk is_sound is_inside given is_complete all_below table given_bits numbers_of read_numbers are_widths bounds tab ascii decimal_from decimal_text fault_text
faults-hold = refl

sizes-hold : map with_text size_cases ≡ size_cases
unfolding bytes spared program_text read_numbers decode is_head spare_zero little tab ascii decimal_from decimal_text refused_text
sizes-hold = refl

rule-holds : with_text rule_case ≡ rule_case
unfolding add sub mul div neg lt le eq is_nan sum round size units odd span climb count_trailing_zeros of_bits of_fields to_bits Σ tab dot gather scatter rows grid row column transposed floor_root root_of sqrt_of norm rescaled reduced plain_norm scaled largest has_nan has_inf along image column_norm pivot swapped reflector pinned advance steps factor forth back apply_qt apply_q upward solve_r downward solve_rt solve residual dual_of members solve_of choose ratio_of ranks_before blocking step_to next_x next_mark move_x move_p judge try_next tries turn_next turns lastly pass round_next rounds active_set nnls dual_matrix dual_side dual_residual primal ldp reduced_rows reduced_sides restored lsi_from lsi fixed turned tail_of shifted gradient equality_multipliers rejoined lsei_from lsei matrix_of sides_of each unit bound_rows equality_rows inequality_rows opposed_rows loosened_row delta_rows relaxed_rows target in_order exact_step exact relaxed_matrix paired clamped relaxed_step relaxed step bytes spared program_text decode is_head spare_zero little walk is_sound is_inside given is_complete all_below table given_bits numbers_of read_numbers are_widths bounds ascii decimal_from decimal_text float_text line_text lines_text refused_text done_text
rule-holds = refl

steps-hold : map with_text step_cases ≡ step_cases
unfolding add sub mul div neg lt le eq is_nan sum round size units odd span climb count_trailing_zeros of_bits of_fields to_bits Σ tab dot gather scatter rows grid row column transposed floor_root root_of sqrt_of norm rescaled reduced plain_norm scaled largest has_nan has_inf along image column_norm pivot swapped reflector pinned advance steps factor forth back apply_qt apply_q upward solve_r downward solve_rt solve residual dual_of members solve_of choose ratio_of ranks_before blocking step_to next_x next_mark move_x move_p judge try_next tries turn_next turns lastly pass round_next rounds active_set nnls dual_matrix dual_side dual_residual primal ldp reduced_rows reduced_sides restored lsi_from lsi fixed turned tail_of shifted gradient equality_multipliers rejoined lsei_from lsei matrix_of sides_of each unit bound_rows equality_rows inequality_rows opposed_rows loosened_row delta_rows relaxed_rows target in_order exact_step exact relaxed_matrix paired clamped relaxed_step relaxed step bytes spared program_text decode is_head spare_zero little walk is_sound is_inside given is_complete all_below table given_bits numbers_of read_numbers are_widths bounds ascii decimal_from decimal_text float_text line_text lines_text refused_text done_text
steps-hold = refl

bounds-hold : map with_text bound_cases ≡ bound_cases
unfolding add sub mul div neg lt le eq is_nan sum round size units odd span climb count_trailing_zeros of_bits of_fields to_bits Σ tab dot gather scatter rows grid row column transposed floor_root root_of sqrt_of norm rescaled reduced plain_norm scaled largest has_nan has_inf along image column_norm pivot swapped reflector pinned advance steps factor forth back apply_qt apply_q upward solve_r downward solve_rt solve residual dual_of members solve_of choose ratio_of ranks_before blocking step_to next_x next_mark move_x move_p judge try_next tries turn_next turns lastly pass round_next rounds active_set nnls dual_matrix dual_side dual_residual primal ldp reduced_rows reduced_sides restored lsi_from lsi fixed turned tail_of shifted gradient equality_multipliers rejoined lsei_from lsei matrix_of sides_of each unit bound_rows equality_rows inequality_rows opposed_rows loosened_row delta_rows relaxed_rows target in_order exact_step exact relaxed_matrix paired clamped relaxed_step relaxed step bytes spared program_text decode is_head spare_zero little walk is_sound is_inside given is_complete all_below table given_bits numbers_of read_numbers are_widths bounds ascii decimal_from decimal_text float_text line_text lines_text refused_text done_text
bounds-hold = refl

pub cases-hold : CasesHold
cases-hold = record { rule = rule-holds; faults = faults-hold; sizes = sizes-hold; steps = steps-hold; open_bounds = bounds-hold }
