-- The machine in the two slices that a caller keeps for it: how it is read there and written. Where things stand is in Places, and in docs/LAYOUT.md. Definitions only.
use Rattle.std.specs.Prelude.{ℕ, zero, suc, ◌+◌, ◌-◌, ◌*◌, ◌≤◌, ◌<◌, ◌≡◌, Bool, true, false, cond, ◌&&◌, List, [], ◌∷◌, leb, eqb, length, replicate, Float}
use Rattle.std.proofs.Math.Option.{Option, none, some}
use Rattle.numbers.specs.Numbers.{+0, at, nth}
use Rattle.workspace.specs.Tables.{is_dimension, is_constraints}
use Rattle.workspace.specs.Readings.{vec, nums}
use Rattle.search.specs.Places.{MOST_VALUES, PHASE_CONVERGED, PHASE_EXHAUSTED, PHASE_INFEASIBLE, PHASE_LOWERED, PHASE_NONFINITE, PHASE_RAISED, PHASE_SLOPES, PHASE_START, PHASE_TRIAL, SCHEME_CENTRAL, SCHEME_FORWARD, SCHEME_TOLD, SEARCH_AFTER, SEARCH_AGAIN, SEARCH_ALL_SLOPES, SEARCH_ALPHA, SEARCH_ASKED, SEARCH_B, SEARCH_CONSTRAINTS, SEARCH_COORDINATES, SEARCH_D, SEARCH_FRESH, SEARCH_KINDS, SEARCH_LEFT, SEARCH_LOWER, SEARCH_MACHINE, SEARCH_MERIT, SEARCH_MULTIPLIERS, SEARCH_NEW_SLOPES, SEARCH_NEW_VALUES, SEARCH_NEW_X, SEARCH_PENALTIES, SEARCH_POINT, SEARCH_RAISED_VALUE, SEARCH_SCHEME, SEARCH_SLOPE, SEARCH_TAKEN, SEARCH_TOLERANCE, SEARCH_UPPER, SEARCH_VALUES, SEARCH_VARIABLES, SEARCH_WORDS, SEARCH_X}
use Rattle.search.specs.Setup.{Setup, is_budget, is_scheme, are_kinds, Scheme, told, forward, central, Point, Report, values, slopes, single, Ending, converged, infeasible, exhausted, nonfinite}
use Rattle.search.specs.Turn.{Iterate, Line, backtracks, point_of, unknown, report_of, blank}
use Rattle.search.specs.Written.{Goal, begun, taken, Standing, over, waits}
use Rattle.search.specs.Machine.{Machine, ended, starting, trying, sloping, raised, lowered, standing, report_now}

-- ---- numbers of cases

abbrev pub scheme_of : ℕ → Scheme
scheme_of zero = told
scheme_of (suc zero) = forward
scheme_of (suc (suc k)) = central

abbrev pub scheme_number : Scheme → ℕ
scheme_number told = SCHEME_TOLD
scheme_number forward = SCHEME_FORWARD
scheme_number central = SCHEME_CENTRAL

abbrev pub ending_number : Ending → ℕ
ending_number converged = PHASE_CONVERGED
ending_number infeasible = PHASE_INFEASIBLE
ending_number exhausted = PHASE_EXHAUSTED
ending_number nonfinite = PHASE_NONFINITE

-- a truth as a word
abbrev pub bit : Bool → ℕ
bit true = 1
bit false = 0

-- ---- reading

abbrev pub setup_in : (f : List Float) (u : List ℕ) → Setup
setup_in f u =
    let n = nth u SEARCH_VARIABLES in
    let m = nth u SEARCH_CONSTRAINTS in
    record { n = n; m = m; kinds = nums SEARCH_KINDS m u; lower = vec SEARCH_LOWER n f; upper = vec SEARCH_UPPER n f; ftol = at f SEARCH_TOLERANCE; scheme = scheme_of (nth u SEARCH_SCHEME) }

abbrev pub point_in : (n m : ℕ) → List Float → Point
point_in n m f = point_of (vec SEARCH_X n f) (vec SEARCH_VALUES (suc m) f)

abbrev pub new_in : (n m : ℕ) → List Float → Point
new_in n m f = point_of (vec SEARCH_NEW_X n f) (vec SEARCH_NEW_VALUES (suc m) f)

abbrev pub iterate_in : (n m : ℕ) → List Float → List ℕ → Iterate
iterate_in n m f u = record { point = point_in n m f; slopes = vec SEARCH_ALL_SLOPES (suc m * n) f; b = vec SEARCH_B (n * n) f; fresh = eqb (nth u SEARCH_FRESH) 1; penalty = vec SEARCH_PENALTIES m f; multipliers = vec SEARCH_MULTIPLIERS m f }

abbrev pub line_in : ℕ → List Float → Line
line_in n f = record { d = vec SEARCH_D n f; merit = at f SEARCH_MERIT; slope = at f SEARCH_SLOPE }

abbrev pub goal_in : (n m : ℕ) → List Float → List ℕ → Goal
goal_in n m f u = cond (eqb (nth u SEARCH_TAKEN) 0) begun (taken (iterate_in n m f u))

abbrev pub report_in : (n m : ℕ) → List Float → Report
report_in n m f = record { point = point_in n m f; multipliers = vec SEARCH_MULTIPLIERS m f }

-- the new slopes known so far: those of the functions passed, and of the coordinates passed
abbrev pub known : (n m rows cols : ℕ) → ℕ
known n m rows cols = (m - rows) * n + (n - suc cols)

-- the state of a phase, in the order of their numbers: no machine, PHASE_START, PHASE_TRIAL, PHASE_SLOPES, PHASE_RAISED, PHASE_LOWERED, and the four ends; a phase past the last is none
unfoldable pub state_in : (phase : ℕ) → (n m : ℕ) (f : List Float) (u : List ℕ) → Option Machine
state_in zero n m f u = none
state_in (suc zero) n m f u = some (starting (nth u SEARCH_LEFT) (vec SEARCH_NEW_X n f))
state_in (suc (suc zero)) n m f u = some (trying (nth u SEARCH_LEFT) (iterate_in n m f u) (line_in n f) (at f SEARCH_ALPHA) (nth u SEARCH_AGAIN))
state_in (suc (suc (suc zero))) n m f u = some (sloping (nth u SEARCH_LEFT) (goal_in n m f u) (new_in n m f))
state_in (suc (suc (suc (suc zero)))) n m f u =
    let rows = nth u SEARCH_AFTER in let cols = nth u SEARCH_COORDINATES in
    some (raised (nth u SEARCH_LEFT) (goal_in n m f u) (new_in n m f) rows cols (vec SEARCH_NEW_SLOPES (known n m rows cols) f))
state_in (suc (suc (suc (suc (suc zero))))) n m f u =
    let rows = nth u SEARCH_AFTER in let cols = nth u SEARCH_COORDINATES in
    some (lowered (nth u SEARCH_LEFT) (goal_in n m f u) (new_in n m f) rows cols (vec SEARCH_NEW_SLOPES (known n m rows cols) f) (at f SEARCH_RAISED_VALUE))
state_in (suc (suc (suc (suc (suc (suc zero)))))) n m f u = some (ended converged (report_in n m f))
state_in (suc (suc (suc (suc (suc (suc (suc zero))))))) n m f u = some (ended infeasible (report_in n m f))
state_in (suc (suc (suc (suc (suc (suc (suc (suc zero)))))))) n m f u = some (ended exhausted (report_in n m f))
state_in (suc (suc (suc (suc (suc (suc (suc (suc (suc zero))))))))) n m f u = some (ended nonfinite (report_in n m f))
state_in (suc (suc (suc (suc (suc (suc (suc (suc (suc (suc k)))))))))) n m f u = none

-- what words a call can work with, whoever wrote them
abbrev pub are_words : List ℕ → Bool
are_words u =
    is_dimension (nth u SEARCH_VARIABLES) && is_constraints (nth u SEARCH_CONSTRAINTS) && is_scheme (nth u SEARCH_SCHEME) && is_budget (nth u SEARCH_LEFT) && leb (nth u SEARCH_AGAIN) backtracks && leb (nth u SEARCH_FRESH) 1 && leb (nth u SEARCH_TAKEN) 1
    && leb (nth u SEARCH_AFTER) (nth u SEARCH_CONSTRAINTS) && leb (suc (nth u SEARCH_COORDINATES)) (nth u SEARCH_VARIABLES) && are_kinds (nums SEARCH_KINDS (nth u SEARCH_CONSTRAINTS) u)

unfoldable pub machine_in : (f : List Float) (u : List ℕ) → Option Machine
machine_in f u = cond (are_words u) (state_in (nth u SEARCH_ASKED) (nth u SEARCH_VARIABLES) (nth u SEARCH_CONSTRAINTS) f u) none

-- ---- writing

-- w with v in front; and w with v from place o on
unfoldable pub fronted : {A : Type 0} → (v w : List A) → List A
fronted [] w = w
fronted (x ∷ v) [] = []
fronted (x ∷ v) (y ∷ w) = x ∷ fronted v w

unfoldable pub laid : {A : Type 0} → (o : ℕ) → (v w : List A) → List A
laid zero v w = fronted v w
laid (suc o) v [] = []
laid (suc o) v (y ∷ w) = y ∷ laid o v w

-- the problem, in slices that are otherwise zero
unfoldable pub setup_floats : Setup → List Float
setup_floats p = laid SEARCH_TOLERANCE (p.ftol ∷ []) (laid SEARCH_LOWER p.lower (laid SEARCH_UPPER p.upper (replicate SEARCH_MACHINE +0)))

unfoldable pub setup_words : Setup → List ℕ
setup_words p = laid SEARCH_VARIABLES (p.n ∷ p.m ∷ scheme_number p.scheme ∷ []) (laid SEARCH_KINDS p.kinds (replicate SEARCH_WORDS 0))

abbrev pub point_floats : Point → List Float → List Float
point_floats q f = laid SEARCH_X q.x (laid SEARCH_VALUES q.values f)

abbrev pub new_floats : Point → List Float → List Float
new_floats q f = laid SEARCH_NEW_X q.x (laid SEARCH_NEW_VALUES q.values f)

-- the report, where it is read at the end and before
abbrev pub report_floats : Report → List Float → List Float
report_floats r f = laid SEARCH_MULTIPLIERS r.multipliers (point_floats r.point f)

abbrev pub iterate_floats : Iterate → List Float → List Float
iterate_floats s f = laid SEARCH_ALL_SLOPES s.slopes (laid SEARCH_B s.b (laid SEARCH_PENALTIES s.penalty (report_floats (report_of s) f)))

-- what slopes at q are for: before the first turn q itself is reported
abbrev pub goal_floats : Setup → Goal → Point → List Float → List Float
goal_floats p begun q f = report_floats (blank p q) f
goal_floats p (taken s) q f = iterate_floats s f

-- all that served the search and is no part of its report, +0: the line, the step, the penalties, the new point, the slopes, B and the point that was asked about
unfoldable pub emptied : List Float → List Float
emptied f =
    laid SEARCH_ALPHA (replicate (SEARCH_LOWER - SEARCH_ALPHA) +0)
    (laid SEARCH_D (replicate (SEARCH_MULTIPLIERS - SEARCH_D) +0)
    (laid SEARCH_NEW_X (replicate (SEARCH_VALUES - SEARCH_NEW_X) +0)
    (laid SEARCH_NEW_VALUES (replicate (SEARCH_MACHINE - SEARCH_NEW_VALUES) +0) f)))

-- what a state says, in the parts that it uses; the other parts are as they were, but behind an end they are emptied
abbrev pub state_floats : Setup → Machine → List Float → List Float
state_floats p (ended e r) f = report_floats r (emptied f)
state_floats p (starting b x) f = laid SEARCH_NEW_X x (report_floats (blank p (unknown p x)) f)
state_floats p (trying b s line α again) f = laid SEARCH_ALPHA (α ∷ line.merit ∷ line.slope ∷ []) (laid SEARCH_D line.d (iterate_floats s f))
state_floats p (sloping b goal q) f = new_floats q (goal_floats p goal q f)
state_floats p (raised b goal q rows cols g) f = laid SEARCH_NEW_SLOPES g (new_floats q (goal_floats p goal q f))
state_floats p (lowered b goal q rows cols g v) f = laid SEARCH_RAISED_VALUE (v ∷ []) (laid SEARCH_NEW_SLOPES g (new_floats q (goal_floats p goal q f)))

-- the point of the question
abbrev pub asked_floats : Standing → List Float → List Float
asked_floats (over e r) f = f
asked_floats (waits (values x)) f = laid SEARCH_POINT x f
asked_floats (waits (slopes x)) f = laid SEARCH_POINT x f
asked_floats (waits (single w x)) f = laid SEARCH_POINT x f

unfoldable pub machine_floats : Setup → Machine → List Float → List Float
machine_floats p m f = asked_floats (standing p m) (state_floats p m f)

-- the seven words of a state: what is asked, the budget that is left, trials after this one, whether B is fresh, whether a trial was taken, functions and coordinates still to come
abbrev pub is_taken : Goal → Bool
is_taken begun = false
is_taken (taken s) = true

abbrev pub is_fresh : Goal → Bool
is_fresh begun = false
is_fresh (taken s) = s.fresh

abbrev pub seven : Machine → List ℕ
seven (ended e r) = ending_number e ∷ 0 ∷ 0 ∷ 0 ∷ 0 ∷ 0 ∷ 0 ∷ []
seven (starting b x) = PHASE_START ∷ b ∷ 0 ∷ 0 ∷ 0 ∷ 0 ∷ 0 ∷ []
seven (trying b s line α again) = PHASE_TRIAL ∷ b ∷ again ∷ bit s.fresh ∷ 1 ∷ 0 ∷ 0 ∷ []
seven (sloping b goal q) = PHASE_SLOPES ∷ b ∷ 0 ∷ bit (is_fresh goal) ∷ bit (is_taken goal) ∷ 0 ∷ 0 ∷ []
seven (raised b goal q rows cols g) = PHASE_RAISED ∷ b ∷ 0 ∷ bit (is_fresh goal) ∷ bit (is_taken goal) ∷ rows ∷ cols ∷ []
seven (lowered b goal q rows cols g v) = PHASE_LOWERED ∷ b ∷ 0 ∷ bit (is_fresh goal) ∷ bit (is_taken goal) ∷ rows ∷ cols ∷ []

unfoldable pub machine_words : Machine → List ℕ → List ℕ
machine_words m u = laid SEARCH_ASKED (seven m) u

-- ---- what fits

pub record FitsPoint (n m : ℕ) (q : Point) : Type 0 where
  pub x : length q.x ≡ n
  pub values : length q.values ≡ suc m

pub record FitsIterate (n m : ℕ) (s : Iterate) : Type 0 where
  pub point : FitsPoint n m s.point
  pub slopes : length s.slopes ≡ suc m * n
  pub b : length s.b ≡ n * n
  pub penalty : length s.penalty ≡ m
  pub multipliers : length s.multipliers ≡ m

abbrev pub FitsGoal : (n m : ℕ) → Goal → Type 0
FitsGoal n m begun = Unit {0}
FitsGoal n m (taken s) = FitsIterate n m s

abbrev pub Fits : (n m : ℕ) → Machine → Type 0
Fits n m (ended e r) = FitsPoint n m r.point × (length r.multipliers ≡ m)
Fits n m (starting b x) = (length x ≡ n) × (b ≤ MOST_VALUES)
Fits n m (trying b s line α again) = FitsIterate n m s × (length line.d ≡ n) × (b ≤ MOST_VALUES) × (again ≤ backtracks)
Fits n m (sloping b goal q) = FitsGoal n m goal × FitsPoint n m q × (b ≤ MOST_VALUES)
Fits n m (raised b goal q rows cols g) = FitsGoal n m goal × FitsPoint n m q × (b ≤ MOST_VALUES) × (rows ≤ m) × (cols < n) × (length g ≡ known n m rows cols)
Fits n m (lowered b goal q rows cols g v) = FitsGoal n m goal × FitsPoint n m q × (b ≤ MOST_VALUES) × (rows ≤ m) × (cols < n) × (length g ≡ known n m rows cols)

-- a problem that begins
pub record Posed (p : Setup) : Type 0 where
  pub some : 1 ≤ p.n
  pub few : p.n ≤ 16
  pub constraints : p.m ≤ 16
  pub kinds : length p.kinds ≡ p.m
  pub two : are_kinds p.kinds ≡ true
  pub lower : length p.lower ≡ p.n
  pub upper : length p.upper ≡ p.n

-- A machine that is written is read again, with its problem, and what it reports is read there too.
pub record Holds (p : Setup) (m : Machine) (f : List Float) (u : List ℕ) : Type 0 where
  pub floats : length f ≡ SEARCH_MACHINE
  pub words : length u ≡ SEARCH_WORDS
  pub problem : setup_in f u ≡ p
  pub machine : machine_in f u ≡ some m
  pub report : report_in p.n p.m f ≡ report_now p m

abbrev pub Begun : Type 0
Begun = (p : Setup) (m : Machine) → Posed p → Fits p.n p.m m → Holds p m (machine_floats p m (setup_floats p)) (machine_words m (setup_words p))

abbrev pub Kept : Type 0
Kept = (p : Setup) (m m' : Machine) (f : List Float) (u : List ℕ) → Posed p → Fits p.n p.m m' → Holds p m f u → Holds p m' (machine_floats p m' f) (machine_words m' u)
