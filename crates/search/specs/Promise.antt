-- What calls of the search answer and leave. Definitions only.
use Rattle.std.specs.Prelude.{ℕ, zero, suc, ◌*◌, ◌≡◌, Bool, true, false, ◌&&◌, not, List, Float}
use Rattle.std.proofs.Math.Option.{Option, none, some}
use Rattle.std.specs.Float.Ieee.{lt}
use Rattle.numbers.specs.Numbers.{at}
use Rattle.workspace.specs.declared.Refusal.TheVariants.{Length, Room, Tolerance, Crossed, Nonfinite, Unasked}
use Rattle.workspace.specs.Tables.{Outcome}
use Rattle.std.specs.Prelude.{Ok, Err}
use Rattle.workspace.specs.Tables.{Answer, done, refused, call, test, output, floats, words, is_dimension, is_constraints, is_room, is_tolerance, has}
use Rattle.step_call.specs.Strict.{bounds}
use Rattle.search.specs.Places.{SEARCH_MACHINE, SEARCH_WORDS}
use Rattle.search.specs.Setup.{Setup, is_budget, is_scheme, are_kinds, Question, values, slopes, single, Ending, converged, infeasible, exhausted, nonfinite}
use Rattle.search.specs.Written.{Standing, over, waits}
use Rattle.search.specs.Machine.{Machine, ended, starting, trying, sloping, raised, lowered, begin, tell, standing}
use Rattle.search.specs.Layout.{scheme_of, setup_in, machine_in, setup_floats, setup_words, machine_floats, machine_words}

-- ---- beginning

-- of the first n variables, no lower bound is above its upper one
unfoldable pub are_ordered : ℕ → (lower upper : List Float) → Bool
are_ordered zero l u = true
are_ordered (suc i) l u = are_ordered i l u && not (lt (at u i) (at l i))

-- the problem of these parts
abbrev pub setup_of : (n m : ℕ) (kinds : List ℕ) (lower upper : List Float) (ftol : Float) (scheme : ℕ) → Setup
setup_of n m kinds lower upper ftol scheme = record { n = n; m = m; kinds = kinds; lower = lower; upper = upper; ftol = ftol; scheme = scheme_of scheme }

-- The whole call, where f and u are to hold the machine, answers the state that it is then in. After the kinds the tolerance is tested, which is not NaN and not below zero;
-- then each bound, as in the strict step; then that they are in order.
abbrev pub begin_call : (p : Setup) (scheme : ℕ) (x : List Float) (b : ℕ) (f : List Float) (u : List ℕ) (w : List Float) (iw : List ℕ) → Answer Machine
begin_call p scheme x b f u w iw =
    call (is_dimension p.n && is_constraints p.m && is_budget b && is_scheme scheme)
    (has p.kinds p.m && has p.lower p.n && has p.upper p.n && has x p.n && has f SEARCH_MACHINE && has u SEARCH_WORDS)
    (is_room w iw) (are_kinds p.kinds)
    (test (is_tolerance p.ftol) Tolerance (bounds p.lower p.upper p.n 0 (test (are_ordered p.n p.lower p.upper) Crossed (done (begin p x b)))))

-- ---- telling

-- how many numbers a question is to be told
abbrev pub wanted : Setup → Question → ℕ
wanted p (values x) = suc p.m
wanted p (slopes x) = suc p.m * p.n
wanted p (single w x) = 1

abbrev pub is_wanted : Setup → Standing → (v : List Float) → Bool
is_wanted p (over e r) v = true
is_wanted p (waits q) v = has v (wanted p q)

-- whether a question stands
abbrev pub is_waiting : Standing → Bool
is_waiting (over e r) = false
is_waiting (waits q) = true

-- The tests in their order: lengths, of an answer too where a question stands; workspaces; a question stands. Words that are no machine ask nothing.
abbrev pub heard : (lengths room waiting : Bool) → Machine → Answer Machine
heard l r a m = test l Length (test r Room (test a Unasked (done m)))

abbrev pub tell_in : Setup → Option Machine → (lengths : Bool) (v : List Float) (room : Bool) → Answer Machine
tell_in p none l v r = test l Length (test r Room (refused Unasked))
tell_in p (some m) l v r = heard (l && is_wanted p (standing p m) v) r (is_waiting (standing p m)) (tell p m v)

-- the whole call: telling v to the machine in f and u answers the state that it is then in
abbrev pub tell_call : (v f : List Float) (u : List ℕ) (w : List Float) (iw : List ℕ) → Answer Machine
tell_call v f u w iw = tell_in (setup_in f u) (machine_in f u) (has f SEARCH_MACHINE && has u SEARCH_WORDS) v (is_room w iw)

-- ---- what a call leaves

-- the outcome: refused by 17 where a nonfinite number has ended the run
abbrev pub end_outcome : Ending → Outcome
end_outcome converged = Ok tt
end_outcome infeasible = Ok tt
end_outcome exhausted = Ok tt
end_outcome nonfinite = Err Nonfinite

abbrev pub state_outcome : Machine → Outcome
state_outcome (ended e r) = end_outcome e
state_outcome (starting b x) = Ok tt
state_outcome (trying b s line α again) = Ok tt
state_outcome (sloping b goal q) = Ok tt
state_outcome (raised b goal q rows cols g) = Ok tt
state_outcome (lowered b goal q rows cols g v) = Ok tt

abbrev pub call_outcome : Answer Machine → Outcome
call_outcome (done m) = state_outcome m
call_outcome (refused r) = Err r

-- the two slices of the machine: `first` where the run begins, so that both are written whole; a refusal leaves them as they were
abbrev pub floats_from : (first : Bool) → Setup → List Float → List Float
floats_from true p f = setup_floats p
floats_from false p f = f

abbrev pub words_from : (first : Bool) → Setup → List ℕ → List ℕ
words_from true p u = setup_words p
words_from false p u = u

abbrev pub floats_of : (first : Bool) → Setup → Answer Machine → List Float → List Float
floats_of first p c f = output c (λ m. machine_floats p m (floats_from first p f)) f

abbrev pub words_of : (first : Bool) → Setup → Answer Machine → List ℕ → List ℕ
words_of first p c u = output c (λ m. machine_words m (words_from first p u)) u

-- From the answer c of such a call: the outcome r, and what the machine's slices and the workspaces hold before and, primed, afterwards.
pub record Runs (first : Bool) (p : Setup) (c : Answer Machine) (r : Outcome) (f f' : List Float) (u u' : List ℕ) (w w' : List Float) (iw iw' : List ℕ) : Type 0 where
  pub the_outcome : r ≡ call_outcome c
  pub the_machine : f' ≡ floats_of first p c f
  pub the_state : u' ≡ words_of first p c u
  pub the_floats : w' ≡ floats c w
  pub the_words : iw' ≡ words c iw
