-- The states that the transitions of the search lead to, from what stands in its slices. Definitions only.
use Rattle.std.specs.Prelude.{ℕ, zero, suc, ◌+◌, ◌-◌, ◌*◌, ◌≤◌, ◌≡◌, Bool, true, false, cond, List, [], ◌∷◌, ◌++◌, eqb, length, set, Float}
use Rattle.std.proofs.Math.Option.{some}
use Rattle.numbers.specs.Numbers.{at, nth}
use Rattle.workspace.specs.Readings.{vec}
use Rattle.search.specs.Places.{PHASE_LOWERED, PHASE_RAISED, PHASE_SLOPES, PHASE_START, PHASE_TRIAL, SEARCH_AFTER, SEARCH_AGAIN, SEARCH_ALPHA, SEARCH_ASKED, SEARCH_CONSTRAINTS, SEARCH_COORDINATES, SEARCH_LEFT, SEARCH_MACHINE, SEARCH_NEW_SLOPES, SEARCH_NEW_X, SEARCH_RAISED_VALUE, SEARCH_VARIABLES, SEARCH_WORDS}
use Rattle.search.specs.Setup.{Setup, Point, Report, Ending, nonfinite, are_finite}
use Rattle.search.specs.Turn.{point_of, report_of, blank, along, raise, lower, quotient}
use Rattle.search.specs.Written.{Goal, begun, taken, report_for, pay, sound, reach}
use Rattle.search.specs.Machine.{Machine, ended, raised, lowered, try_next, turn_next, arrive_next, move_next, slopes_next, judge_next, lower_next, tell}
use Rattle.search.specs.Layout.{ending_number, bit, setup_in, new_in, iterate_in, line_in, goal_in, known, are_words, machine_in, laid, is_taken, is_fresh}
use Rattle.search.specs.inner.Work.{Turned}

-- ---- words

abbrev pub seven_words : (phase b again fresh goal rows cols : ℕ) → List ℕ → List ℕ
seven_words phase b again fresh goal rows cols u = laid SEARCH_ASKED (phase ∷ b ∷ again ∷ fresh ∷ goal ∷ rows ∷ cols ∷ []) u

abbrev pub goal_words : Goal → (phase b rows cols : ℕ) → List ℕ → List ℕ
goal_words goal phase b rows cols u = seven_words phase b 0 (bit (is_fresh goal)) (bit (is_taken goal)) rows cols u

-- ---- ends

-- the run has ended with the report r; k is the number of how
abbrev pub Ends : (k : ℕ) → Report → (f f' : List Float) (u u' : List ℕ) → Type 0
Ends k r f f' u u' = (e : Ending) → k ≡ ending_number e → Turned (setup_in f u) (ended e r) f f' u u'

-- ---- differences

abbrev pub moved_to : (down : Bool) → Float → Float
moved_to false x = raise x
moved_to true x = lower x

-- the state that waits for the value at a moved point
abbrev pub moved_state : (down : Bool) → (b : ℕ) → Goal → Point → (rows cols : ℕ) → (g : List Float) → (v : Float) → Machine
moved_state false b goal q rows cols g v = raised b goal q rows cols g
moved_state true b goal q rows cols g v = lowered b goal q rows cols g v

abbrev pub ask_moved : Setup → (down : Bool) → (b : ℕ) → Goal → Point → (rows cols : ℕ) → (g : List Float) → (v : Float) → Machine
ask_moved p down b goal q rows cols g v =
    reach ended (moved_to down (at q.x (p.n - suc cols))) (report_for p goal q) (pay ended (p.m - rows) b (report_for p goal q) (λ c. moved_state down c goal q rows cols g v))

abbrev pub moved_in : (n i : ℕ) → (y : Float) → List Float → List Float
moved_in n i y f = set (vec SEARCH_NEW_X n f) i y

abbrev pub phase_of : (down : Bool) → ℕ
phase_of false = PHASE_RAISED
phase_of true = PHASE_LOWERED

-- what function m - rows costs
abbrev pub price_of : (rows m : ℕ) → ℕ
price_of rows m = cond (eqb rows m) 1 0

-- what is asked next about the goal and the new point in the slices, and the slopes known of it
abbrev pub asked_in : (n m : ℕ) (f : List Float) (u : List ℕ) → (down : Bool) → (rows cols : ℕ) → Machine
asked_in n m f u down rows cols = ask_moved (setup_in f u) down (nth u SEARCH_LEFT) (goal_in n m f u) (new_in n m f) rows cols (vec SEARCH_NEW_SLOPES (known n m rows cols) f) (at f SEARCH_RAISED_VALUE)

-- the slope along the coordinate that was moved is c
abbrev pub added_in : (n m : ℕ) (f : List Float) (u : List ℕ) → (rows cols : ℕ) → (c : Float) → Machine
added_in n m f u rows cols c = move_next (setup_in f u) (goal_in n m f u) (new_in n m f) rows cols (nth u SEARCH_LEFT) (vec SEARCH_NEW_SLOPES (known n m rows cols) f ++ (c ∷ []))

-- a row is whole
abbrev pub row_in : (n m : ℕ) (f : List Float) (u : List ℕ) → (rows : ℕ) → Machine
row_in n m f u rows = move_next (setup_in f u) (goal_in n m f u) (new_in n m f) rows 0 (nth u SEARCH_LEFT) (vec SEARCH_NEW_SLOPES ((m - rows) * n + n) f)

-- the gradient is finite; of a constraint's row nothing is asked yet
abbrev pub row_stands : (n m rows : ℕ) → List Float → Bool
row_stands n m rows f = cond (eqb rows m) (are_finite (vec SEARCH_NEW_SLOPES n f)) true

-- ---- answers

abbrev pub tried_in : (n m : ℕ) (f : List Float) (u : List ℕ) → (alpha : Float) → (again : ℕ) → Machine
tried_in n m f u α again = try_next (nth u SEARCH_LEFT) (iterate_in n m f u) (line_in n f) α again

abbrev pub turned_in : (n m : ℕ) (f : List Float) (u : List ℕ) → Machine
turned_in n m f u = turn_next (setup_in f u) (nth u SEARCH_LEFT) (iterate_in n m f u)

abbrev pub arrived_in : (n m : ℕ) (f : List Float) (u : List ℕ) → (g : List Float) → Machine
arrived_in n m f u g = arrive_next (setup_in f u) (goal_in n m f u) (nth u SEARCH_LEFT) (new_in n m f) g

abbrev pub sloped_in : (n m : ℕ) (f : List Float) (u : List ℕ) → Machine
sloped_in n m f u = slopes_next (setup_in f u).scheme (setup_in f u) (goal_in n m f u) (nth u SEARCH_LEFT) (new_in n m f)

-- the point of the trial with its values v
abbrev pub trial_in : (n m : ℕ) (f : List Float) (u : List ℕ) → (v : List Float) → Point
trial_in n m f u v = point_of (along (setup_in f u) (iterate_in n m f u) (line_in n f) (at f SEARCH_ALPHA)) v

abbrev pub taken_in : (n m : ℕ) (f : List Float) (u : List ℕ) → (v : List Float) → Machine
taken_in n m f u v = slopes_next (setup_in f u).scheme (setup_in f u) (taken (iterate_in n m f u)) (nth u SEARCH_LEFT) (trial_in n m f u v)

abbrev pub judged_in : (n m : ℕ) (f : List Float) (u : List ℕ) → (v : List Float) → Machine
judged_in n m f u v = judge_next (setup_in f u) (nth u SEARCH_LEFT) (iterate_in n m f u) (line_in n f) (at f SEARCH_ALPHA) (nth u SEARCH_AGAIN) (trial_in n m f u v)

abbrev pub raised_in : (n m : ℕ) (f : List Float) (u : List ℕ) → (rows cols : ℕ) → (v : Float) → Machine
raised_in n m f u rows cols v = lower_next (setup_in f u).scheme (setup_in f u) (nth u SEARCH_LEFT) (goal_in n m f u) (new_in n m f) rows cols (vec SEARCH_NEW_SLOPES (known n m rows cols) f) v

-- the values at the start are v
abbrev pub begun_in : (n m : ℕ) (f : List Float) (u : List ℕ) → (v : List Float) → Machine
begun_in n m f u v =
    let q = point_of (vec SEARCH_NEW_X n f) v in
    sound ended v (blank (setup_in f u) q) (slopes_next (setup_in f u).scheme (setup_in f u) begun (nth u SEARCH_LEFT) q)

-- the value at the lowered point is v
abbrev pub second_in : (n m : ℕ) (f : List Float) (u : List ℕ) → (rows cols : ℕ) → (v : Float) → Machine
second_in n m f u rows cols v = let x = at (vec SEARCH_NEW_X n f) ((setup_in f u).n - suc cols) in added_in n m f u rows cols (quotient (at f SEARCH_RAISED_VALUE) v (raise x) (lower x))

abbrev pub single_in : (n m : ℕ) (f : List Float) (u : List ℕ) → (v : Float) → Machine
single_in n m f u v = cond (eqb (nth u SEARCH_ASKED) PHASE_RAISED) (raised_in n m f u (nth u SEARCH_AFTER) (nth u SEARCH_COORDINATES) v) (second_in n m f u (nth u SEARCH_AFTER) (nth u SEARCH_COORDINATES) v)

-- behind the start: what is told is finite, or is not
abbrev pub resumed_in : (n m : ℕ) (f : List Float) (u : List ℕ) → (v : List Float) → Machine
resumed_in n m f u v = cond (eqb (nth u SEARCH_ASKED) PHASE_TRIAL) (judged_in n m f u v) (cond (eqb (nth u SEARCH_ASKED) PHASE_SLOPES) (arrived_in n m f u v) (single_in n m f u (at v 0)))

abbrev pub broken_in : (n m : ℕ) (f : List Float) (u : List ℕ) → Machine
broken_in n m f u = ended nonfinite (cond (eqb (nth u SEARCH_ASKED) PHASE_TRIAL) (report_of (iterate_in n m f u)) (report_for (setup_in f u) (goal_in n m f u) (new_in n m f)))

-- ---- a call

-- how many numbers the question of a phase is told: none, PHASE_START and PHASE_TRIAL, PHASE_SLOPES, and the two after it
abbrev pub wanted_at : (phase n m : ℕ) → ℕ
wanted_at zero n m = 0
wanted_at (suc zero) n m = suc m
wanted_at (suc (suc zero)) n m = suc m
wanted_at (suc (suc (suc zero))) n m = suc m * n
wanted_at (suc (suc (suc (suc k)))) n m = 1

-- a question stands, and its answer is as long as it is to be
pub record Heard (v f : List Float) (u : List ℕ) : Type 0 where
  pub floats : length f ≡ SEARCH_MACHINE
  pub words : length u ≡ SEARCH_WORDS
  pub good : are_words u ≡ true
  pub asked : PHASE_START ≤ nth u SEARCH_ASKED
  pub waiting : nth u SEARCH_ASKED ≤ PHASE_LOWERED
  pub told : length v ≡ wanted_at (nth u SEARCH_ASKED) (nth u SEARCH_VARIABLES) (nth u SEARCH_CONSTRAINTS)

-- the state in the slices has become what it becomes by v
abbrev pub Told : (v f f' : List Float) (u u' : List ℕ) → Type 0
Told v f f' u u' = (M : Machine) → machine_in f u ≡ some M → Turned (setup_in f u) (tell (setup_in f u) M v) f f' u u'
