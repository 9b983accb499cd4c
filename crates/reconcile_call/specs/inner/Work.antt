-- What the functions behind the operation take and leave. No promise rests on these.
use Rattle.std.specs.Prelude.{◌≡◌, List, ℕ, Float}
use Rattle.workspace.specs.Tables.{Answer, done, outcome_of, output}
use Rattle.workspace.specs.Tables.{Outcome}
use Rattle.lsei.specs.Lsei.{Solution}
use Rattle.reconcile.specs.Day.{named}
use Rattle.reconcile_call.specs.Promise.{meters}

-- what the tests of n meters from meter i on come to, where nothing follows
abbrev pub tested_outcome : (before after : List ℕ) → List Float → (n i : ℕ) → Outcome
tested_outcome before after spreads n i = outcome_of (meters {A = Unit} before after spreads n i (done tt))

-- the answer out: its outcome, the volumes and the marks
pub record DayGiven (n : ℕ) (a : Answer Solution) (o : Outcome) (x x' : List Float) (marks marks' : List ℕ) : Type 0 where
  pub the_outcome : o ≡ outcome_of a
  pub the_volumes : x' ≡ output a (λ s. s.x) x
  pub the_marks : marks' ≡ output a (λ s. named n s.x) marks
