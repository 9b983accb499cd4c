-- The two tables that `decode` leaves: a mark for each entry that a problem can have, and its value; and the problem that stands in them. Definitions only.
use Rattle.std.specs.Prelude.{cond, List, ℕ, ◌+◌, ◌*◌, eqb, get_or, take, drop, Float, Result, Ok, Err}
use Rattle.numbers.specs.Numbers.{tab}
use Rattle.step_rows.specs.Problem.{Problem, problem_of}
use Rattle.problem_read.specs.Input.{Decoded, fault, too_large, problem}
use Rattle.problem_read.specs.declared.Sizes.{Sizes}
use Rattle.problem_read.specs.declared.Unread.{Unread}
use Rattle.problem_read.specs.declared.Unread.TheVariants.{Fault, Large}

-- ---- where the areas start, after the factor's at 0, and how many places there are

abbrev pub GRADIENT : ℕ
GRADIENT = 256

abbrev pub VALUES : ℕ
VALUES = GRADIENT + 16

abbrev pub JACOBIAN : ℕ
JACOBIAN = VALUES + 16

abbrev pub LOWER : ℕ
LOWER = JACOBIAN + 256

abbrev pub UPPER : ℕ
UPPER = LOWER + 16

abbrev pub WIDTHS : ℕ
WIDTHS = UPPER + 16

abbrev pub PLACES : ℕ
PLACES = WIDTHS + 16

-- ---- the problem in them

-- the parts of the problem
abbrev pub factor_in : ℕ → List Float → List Float
factor_in n vals = take (n * n) vals

abbrev pub gradient_in : ℕ → List Float → List Float
gradient_in n vals = take n (drop GRADIENT vals)

abbrev pub values_in : ℕ → List Float → List Float
values_in m vals = take m (drop VALUES vals)

abbrev pub jacobian_in : (m n : ℕ) → List Float → List Float
jacobian_in m n vals = take (m * n) (drop JACOBIAN vals)

abbrev pub lower_in : ℕ → List Float → List Float
lower_in n vals = take n (drop LOWER vals)

abbrev pub upper_in : ℕ → List Float → List Float
upper_in n vals = take n (drop UPPER vals)

abbrev pub widths_in : ℕ → List Float → List Float
widths_in m vals = take m (drop WIDTHS vals)

-- constraint i is an inequality if its mark is 2, and a band if its width is marked
unfoldable pub kind_at : List ℕ → ℕ → ℕ
kind_at marks i = cond (eqb (get_or marks (VALUES + i) 0) 2) (cond (eqb (get_or marks (WIDTHS + i) 0) 0) 1 2) 0

abbrev pub kinds_in : ℕ → List ℕ → List ℕ
kinds_in m marks = tab m (kind_at marks)

unfoldable pub problem_in : (m n : ℕ) → List ℕ → List Float → Problem
problem_in m n marks vals =
    problem_of n m (factor_in n vals) (gradient_in n vals) (kinds_in m marks) (values_in m vals) (widths_in m vals) (jacobian_in m n vals) (lower_in n vals) (upper_in n vals)

-- what is decoded: the code's answer, with the problem that stands in the tables
abbrev pub decoded_in : Result Sizes Unread → List ℕ → List Float → Decoded Problem
decoded_in (Err (Fault k)) marks vals = fault k
decoded_in (Err Large) marks vals = too_large
decoded_in (Ok s) marks vals = problem (problem_in s.constraints s.variables marks vals)
