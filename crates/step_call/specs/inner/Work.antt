-- What the functions behind the public step are handed and leave. Definitions only.
use Rattle.std.specs.Prelude.{ℕ, ◌≡◌, ◌&&◌, List, Float, Result, Ok, Err}
use Rattle.workspace.specs.Tables as Tested
use Rattle.workspace.specs.declared.Refusal.{Refusal}
use Rattle.workspace.specs.declared.Refusal.TheVariants.{Width}
use Rattle.workspace.specs.Tables.{Answer, done, call, test, outcome_of, is_dimension, is_constraints, is_room}
use Rattle.workspace.specs.Readings.{vec, Cleared}
use Rattle.step_rows.specs.Problem.{Problem}
use Rattle.step.specs.Step.{Step, step}
use Rattle.step.specs.inner.Places.{STEP_D, STEP_MULTIPLIERS}
use Rattle.step.specs.declared.Stepped.{Stepped}
use Rattle.step_call.specs.Promise.{are_lengths, are_kinds, are_widths}
use Rattle.step_call.specs.Strict.{bounds}

-- what the tests of n variables' bounds from variable i on come to, where nothing follows
abbrev pub bounds_outcome : (lower upper : List Float) → (n i : ℕ) → Tested.Outcome
bounds_outcome lower upper n i = outcome_of (bounds {A = Unit} lower upper n i (done tt))

-- the call with the bounds of the first `tested` variables among its tests: none for the step, all for the strict step
abbrev pub tested_call : (tested : ℕ) → Problem → (d multipliers w : List Float) (iw : List ℕ) → Answer Step
tested_call tested p d l w iw =
    call (is_dimension p.n && is_constraints p.m) (are_lengths p d l) (is_room w iw) (are_kinds p.kinds)
    (test (are_widths p.kinds p.widths p.m) Width (bounds p.lower p.upper tested 0 (step p).answer))

-- a new list where the step is done, and else the old one
abbrev pub handed : Result Float Refusal → (new old : List Float) → List Float
handed (Ok relaxation) new old = new
handed (Err r) new old = old

-- from how the step ended: the outputs d and l, and the workspaces, before and, primed, afterwards
pub record StepGiven (n m : ℕ) (t : Stepped) (d d' l l' w w' : List Float) (iw iw' : List ℕ) : Type 0 where
  pub the_d : d' ≡ handed t.relaxation (vec STEP_D n w) d
  pub the_multipliers : l' ≡ handed t.relaxation (vec STEP_MULTIPLIERS m w) l
  pub both : Cleared w w' iw iw'
