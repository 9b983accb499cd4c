-- Names of what stands in the machine's two slices, and of what its words say. Definitions only.
use Rattle.std.specs.Prelude.{ℕ, ◌+◌, ◌*◌}

-- ---- the machine's f64

-- the tolerance
abbrev pub SEARCH_TOLERANCE : ℕ
SEARCH_TOLERANCE = 0

-- of the line: alpha, the merit at the accepted point, and the merit's slope there
abbrev pub SEARCH_ALPHA : ℕ
SEARCH_ALPHA = 1

abbrev pub SEARCH_MERIT : ℕ
SEARCH_MERIT = 2

abbrev pub SEARCH_SLOPE : ℕ
SEARCH_SLOPE = 3

-- the value at a raised point, until the one at the lowered point is told
abbrev pub SEARCH_RAISED_VALUE : ℕ
SEARCH_RAISED_VALUE = 4

-- the lower bounds
abbrev pub SEARCH_LOWER : ℕ
SEARCH_LOWER = 16

-- the upper bounds
abbrev pub SEARCH_UPPER : ℕ
SEARCH_UPPER = SEARCH_LOWER + 16

-- the accepted x, which is reported
abbrev pub SEARCH_X : ℕ
SEARCH_X = SEARCH_UPPER + 16

-- the step d
abbrev pub SEARCH_D : ℕ
SEARCH_D = SEARCH_X + 16

-- the penalties
abbrev pub SEARCH_PENALTIES : ℕ
SEARCH_PENALTIES = SEARCH_D + 16

-- the multipliers of the last step
abbrev pub SEARCH_MULTIPLIERS : ℕ
SEARCH_MULTIPLIERS = SEARCH_PENALTIES + 16

-- the new x: the start, or the trial that was taken
abbrev pub SEARCH_NEW_X : ℕ
SEARCH_NEW_X = SEARCH_MULTIPLIERS + 16

-- the values at the accepted x, the objective first
abbrev pub SEARCH_VALUES : ℕ
SEARCH_VALUES = SEARCH_NEW_X + 16

-- those of the constraints
abbrev pub SEARCH_CONSTRAINT_VALUES : ℕ
SEARCH_CONSTRAINT_VALUES = SEARCH_VALUES + 1

-- the values at the new x
abbrev pub SEARCH_NEW_VALUES : ℕ
SEARCH_NEW_VALUES = SEARCH_VALUES + 24

-- those of the constraints
abbrev pub SEARCH_NEW_CONSTRAINT_VALUES : ℕ
SEARCH_NEW_CONSTRAINT_VALUES = SEARCH_NEW_VALUES + 1

-- the slopes at the accepted x: the gradient, and then the rows of the Jacobian
abbrev pub SEARCH_ALL_SLOPES : ℕ
SEARCH_ALL_SLOPES = SEARCH_NEW_VALUES + 24

-- the slopes at the new x that are known so far
abbrev pub SEARCH_NEW_SLOPES : ℕ
SEARCH_NEW_SLOPES = SEARCH_ALL_SLOPES + 17 * 16

-- B
abbrev pub SEARCH_B : ℕ
SEARCH_B = SEARCH_NEW_SLOPES + 17 * 16

-- the point that is asked about
abbrev pub SEARCH_POINT : ℕ
SEARCH_POINT = SEARCH_B + 16 * 16

-- how many f64 the machine takes
abbrev pub SEARCH_MACHINE : ℕ
SEARCH_MACHINE = SEARCH_POINT + 48

-- ---- its words

-- in the words: what is asked, or how the run has ended (`PHASE_START` and those behind it)
abbrev pub SEARCH_ASKED : ℕ
SEARCH_ASKED = 0

-- what is left of the budget
abbrev pub SEARCH_LEFT : ℕ
SEARCH_LEFT = 1

-- the trials after this one
abbrev pub SEARCH_AGAIN : ℕ
SEARCH_AGAIN = 2

-- whether B is fresh
abbrev pub SEARCH_FRESH : ℕ
SEARCH_FRESH = 3

-- whether the slopes are for a trial that was taken, and not for the start
abbrev pub SEARCH_TAKEN : ℕ
SEARCH_TAKEN = 4

-- the functions after the one that is asked for
abbrev pub SEARCH_AFTER : ℕ
SEARCH_AFTER = 5

-- the coordinates after the one that is moved
abbrev pub SEARCH_COORDINATES : ℕ
SEARCH_COORDINATES = 6

-- n
abbrev pub SEARCH_VARIABLES : ℕ
SEARCH_VARIABLES = 8

-- m
abbrev pub SEARCH_CONSTRAINTS : ℕ
SEARCH_CONSTRAINTS = 9

-- where slopes come from (`SCHEME_TOLD` and those behind it)
abbrev pub SEARCH_SCHEME : ℕ
SEARCH_SCHEME = 10

-- the kinds of the constraints
abbrev pub SEARCH_KINDS : ℕ
SEARCH_KINDS = 16

-- how many words the machine takes
abbrev pub SEARCH_WORDS : ℕ
SEARCH_WORDS = 32

-- ---- what the words say

-- no question, and no machine
abbrev pub PHASE_NONE : ℕ
PHASE_NONE = 0

-- all values at the start are asked for; at a trial; all slopes; one value with a coordinate raised; lowered
abbrev pub PHASE_START : ℕ
PHASE_START = 1

abbrev pub PHASE_TRIAL : ℕ
PHASE_TRIAL = 2

abbrev pub PHASE_SLOPES : ℕ
PHASE_SLOPES = 3

abbrev pub PHASE_RAISED : ℕ
PHASE_RAISED = 4

abbrev pub PHASE_LOWERED : ℕ
PHASE_LOWERED = 5

-- the run has ended
abbrev pub PHASE_CONVERGED : ℕ
PHASE_CONVERGED = 6

abbrev pub PHASE_INFEASIBLE : ℕ
PHASE_INFEASIBLE = 7

abbrev pub PHASE_EXHAUSTED : ℕ
PHASE_EXHAUSTED = 8

abbrev pub PHASE_NONFINITE : ℕ
PHASE_NONFINITE = 9

-- slopes are asked for
abbrev pub SCHEME_TOLD : ℕ
SCHEME_TOLD = 0

-- they are worked out by forward differences, or by central ones
abbrev pub SCHEME_FORWARD : ℕ
SCHEME_FORWARD = 1

abbrev pub SCHEME_CENTRAL : ℕ
SCHEME_CENTRAL = 2

-- the trials after the first one of a line
abbrev pub BACKTRACKS : ℕ
BACKTRACKS = 10

-- the most objective values that a run may cost
abbrev pub MOST_VALUES : ℕ
MOST_VALUES = 10000
