-- What is shown of calls, one after the other, of what they report at the end, and that the promise allows one answer only. Definitions only.
use Rattle.std.specs.Prelude.{ℕ, ◌≤◌, ◌<◌, ◌≡◌, Bool, true, false, cond, ◌&&◌, not, List, [], ◌∷◌, map, length, take, Float}
use Rattle.std.proofs.Math.Option.{Option, none, some}
use Rattle.std.proofs.Math.ListN.{get_elem?}
use Rattle.std.specs.Float.Ieee.{lt}
use Rattle.numbers.specs.Numbers.{at}
use Rattle.workspace.specs.Readings.{vec}
use Rattle.workspace.specs.Tables.{Outcome}
use Rattle.std.specs.Prelude.{Ok, Err}
use Rattle.workspace.specs.declared.Refusal.TheVariants.{Crossed, Unasked}
use Rattle.workspace.specs.Tables.{Answer, refused, outcome_number, is_room, has}
use Rattle.step_call.specs.Strict.{is_bounded}
use Rattle.search.specs.Places.{MOST_VALUES, SEARCH_MACHINE, SEARCH_POINT, SEARCH_WORDS}
use Rattle.search.specs.Setup.{Setup, Report, Question, values, slopes, single, Ending, converged}
use Rattle.search.specs.Turn.{violations}
use Rattle.search.specs.Written.{Standing, over, waits, written, play}
use Rattle.search.specs.Machine.{Machine, ended, begin, tell, standing}
use Rattle.search.specs.Layout.{Posed, Holds, setup_in, machine_in}
use Rattle.search.specs.Claims.{IsInside}
use Rattle.search.specs.Promise.{begin_call, wanted, is_wanted, is_waiting, tell_in, tell_call, floats_of, words_of, Runs}

-- what a machine becomes by a call: it hears an answer of the right length to a question that stands
abbrev pub hears : Setup → Machine → (v : List Float) → Machine
hears p m v = cond (is_waiting (standing p m) && is_wanted p (standing p m) v) (tell p m v) m

unfoldable pub hears_all : Setup → Machine → List (List Float) → Machine
hears_all p m [] = m
hears_all p m (v ∷ vs) = hears_all p (hears p m v) vs

-- the machine's two slices
pub record Slices : Type 0 where
  pub numbers : List Float
  pub state : List ℕ

-- and what calls leave in them that tell vs one after the other, each lent workspaces that are long enough
abbrev pub told_once : (v : List Float) → Slices → Slices
told_once v s =
    let p = setup_in s.numbers s.state in
    let c = tell_in p (machine_in s.numbers s.state) (has s.numbers SEARCH_MACHINE && has s.state SEARCH_WORDS) v true in
    record { numbers = floats_of false p c s.numbers; state = words_of false p c s.state }

unfoldable pub told_all : List (List Float) → Slices → Slices
told_all [] s = s
told_all (v ∷ vs) s = told_all vs (told_once v s)

-- the point of a question
abbrev pub point_asked : Question → List Float
point_asked (values x) = x
point_asked (slopes x) = x
point_asked (single w x) = x

-- it stands where the caller reads it, from SEARCH_POINT on
abbrev pub ReadsPoint : Setup → Standing → (numbers : List Float) → Type 0
ReadsPoint p (over e r) f = Unit {0}
ReadsPoint p (waits q) f = vec SEARCH_POINT p.n f ≡ point_asked q

-- a beginning that is done left f and u
abbrev pub BeginsDone : (p : Setup) (scheme : ℕ) (x : List Float) (b : ℕ) (f : List Float) (u : List ℕ) → Type 0
BeginsDone p scheme x b f u =
    (f₀ : List Float) × (u₀ : List ℕ) × (w : List Float) × (w' : List Float) × (iw : List ℕ) × (iw' : List ℕ) × Runs true p (begin_call p scheme x b f₀ u₀ w iw) (Ok tt) f₀ f u₀ u w w' iw iw'

-- The problem of such a beginning has all that a search needs, and its bounds mean something and are in order.
pub record Sound (p : Setup) (b : ℕ) : Type 0 where
  pub posed : Posed p
  pub budget : b ≤ MOST_VALUES
  pub bounded : (i : ℕ) → i < p.n → is_bounded p.lower p.upper i ≡ true
  pub ordered : (i : ℕ) → i < p.n → lt (at p.upper i) (at p.lower i) ≡ false

abbrev pub BegunSound : Type 0
BegunSound = (p : Setup) (scheme : ℕ) (x : List Float) (b : ℕ) (f : List Float) (u : List ℕ) → BeginsDone p scheme x b f u → Sound p b

-- The slices hold, after such a beginning and any calls, the machine that has heard the answers, so each call does what the written loop does (Claims: StepForStep); and the point of its question stands at its place.
abbrev pub OverCalls : Type 0
OverCalls = (p : Setup) (scheme : ℕ) (x : List Float) (b : ℕ) (f : List Float) (u : List ℕ) → BeginsDone p scheme x b f u → (vs : List (List Float)) →
    let s = told_all vs (record { numbers = f; state = u }) in
    let m = hears_all p (begin p x b) vs in
    Holds p m s.numbers s.state × ReadsPoint p (standing p m) s.numbers

-- a machine stands in the slices, and so does its question, with its point, or its end
pub record Stands (p : Setup) (s : Slices) (w : Standing) : Type 0 where
  pub machine : Machine
  pub holds : Holds p machine s.numbers s.state
  pub stands : standing p machine ≡ w
  pub reads : ReadsPoint p w s.numbers

-- The whole of it: against an answerer who gives as many numbers as are wanted, the calls ask the questions of the written loop, one after the other, and end as it ends.
abbrev pub CallsAnswered : Type 0
CallsAnswered = (p : Setup) (scheme : ℕ) (x : List Float) (b : ℕ) (f : List Float) (u : List ℕ) → BeginsDone p scheme x b f u → (a : Question → List Float) → ((q : Question) → length (a q) ≡ wanted p q) →
    let t = play a (written p x b) in
    let s : Slices = record { numbers = f; state = u } in
    ((i : ℕ) (q : Question) → get_elem? t.asked i ≡ some q → Stands p (told_all (take i (map a t.asked)) s) (waits q))
    × Stands p (told_all (map a t.asked) s) (over t.ending t.report)

-- What a run reports that has ended: its x is inside the bounds, and where it converged, each constraint is violated by less than the tolerance.
pub record ReportIs (p : Setup) (e : Ending) (r : Report) : Type 0 where
  pub inside : (i : ℕ) → i < p.n → IsInside p i (at r.point.x i)
  pub within : e ≡ converged → (j : ℕ) → j < p.m → lt (at (violations p r.point.values) j) p.ftol ≡ true

-- so of the end that any calls have led to, as it is read in the slices
abbrev pub EndsWell : Type 0
EndsWell = (p : Setup) (scheme : ℕ) (x : List Float) (b : ℕ) (f : List Float) (u : List ℕ) → BeginsDone p scheme x b f u → (vs : List (List Float)) (e : Ending) (r : Report) →
    let s = told_all vs (record { numbers = f; state = u }) in
    machine_in s.numbers s.state ≡ some (ended e r) → ReportIs p e r

-- no question stands: the words are no machine, or the run has ended
abbrev pub is_silent : Setup → Option Machine → Bool
is_silent p none = true
is_silent p (some m) = not (is_waiting (standing p m))

-- An answer to no question, whatever it is, is refused by 18 and changes nothing.
abbrev pub NoQuestion : Type 0
NoQuestion = (v f f' : List Float) (u u' : List ℕ) (w w' : List Float) (iw iw' : List ℕ) (r : Outcome) → length f ≡ SEARCH_MACHINE → length u ≡ SEARCH_WORDS → is_room w iw ≡ true
    → is_silent (setup_in f u) (machine_in f u) ≡ true → Runs false (setup_in f u) (tell_call v f u w iw) r f f' u u' w w' iw iw'
    → (r ≡ Err Unasked) × (outcome_number r ≡ 18) × (f' ≡ f) × (u' ≡ u) × (w' ≡ w) × (iw' ≡ iw)

-- Whatever the answer c, the outcome and all that is left are fixed by what was there before.
abbrev pub OneAnswer : Type 0
OneAnswer = (first : Bool) (p : Setup) (c : Answer Machine) (r r' : Outcome) (f f' f'' : List Float) (u u' u'' : List ℕ) (w w' w'' : List Float) (iw iw' iw'' : List ℕ)
    → Runs first p c r f f' u u' w w' iw iw' → Runs first p c r' f f'' u u'' w w'' iw iw'' → (r ≡ r') × (f' ≡ f'') × (u' ≡ u'') × (w' ≡ w'') × (iw' ≡ iw'')

-- A beginning is refused by 16 only where every bound means something: 15 comes before it.
abbrev pub BoundsFirst : Type 0
BoundsFirst = (p : Setup) (scheme : ℕ) (x : List Float) (b : ℕ) (f : List Float) (u : List ℕ) (w : List Float) (iw : List ℕ) → begin_call p scheme x b f u w iw ≡ refused Crossed
    → (i : ℕ) → i < p.n → is_bounded p.lower p.upper i ≡ true
