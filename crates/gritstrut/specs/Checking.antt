-- The promise of the check's C function, and that it allows one answer only. Definitions only.
use Rattle.std.specs.Prelude.{◌≡◌, ◌&&◌, List, [], ◌∷◌, ℕ, Float, Ok, Err}
use Rattle.workspace.specs.declared.Refusal.TheVariants.{Width, Tolerance}
use Rattle.workspace.specs.Tables.{Answer, done, number, number_of, output, call, test, is_dimension, is_constraints, is_room, is_tolerance, has}
use Rattle.step_rows.specs.Problem.{Problem}
use Rattle.step_call.specs.Promise.{are_kinds, are_widths}
use Rattle.step_check.specs.Check.{Pasted, Verdict, verdict, test_told, part_told, index_told}
use Rattle.step_check_call.specs.Promise.{are_pasted, Outcome, outcome_of, Checks}

-- a verdict's entries: test, part and index, all 0 with yes
abbrev pub verdict_entries : Verdict → List ℕ
verdict_entries v = test_told v ∷ part_told v ∷ index_told v ∷ []

-- the whole call: the verdict's length is one of those that number 2 tests
abbrev pub check_verdict_call : Problem → Pasted → (tolerance : Float) (entries : List ℕ) (w : List Float) (iw : List ℕ) → Answer Verdict
check_verdict_call p s tol r w iw =
    call (is_dimension p.n && is_constraints p.m) (are_pasted p s && has r 3) (is_room w iw) (are_kinds p.kinds)
    (test (are_widths p.kinds p.widths p.m) Width (test (is_tolerance tol) Tolerance (done (verdict p s tol))))

-- from an outcome: the number, and the entries, which are written where it is done
abbrev pub number_told : Outcome → ℕ
number_told (Ok v) = 0
number_told (Err r) = number_of r

abbrev pub entries_left : Outcome → List ℕ → List ℕ
entries_left (Ok v) old = verdict_entries v
entries_left (Err r) old = old

pub record VerdictTold (o : Outcome) (k : ℕ) (r r' : List ℕ) : Type 0 where
  pub the_number : k ≡ number_told o
  pub the_entries : r' ≡ entries_left o r

pub record CheckLeaves (c : Answer Verdict) (k : ℕ) (r r' : List ℕ) (w w' : List Float) (iw iw' : List ℕ) : Type 0 where
  pub the_number : k ≡ number c
  pub the_call : Checks c (outcome_of c) w w' iw iw'
  pub the_verdict : r' ≡ output c verdict_entries r

abbrev pub OneCheck : Type 0
OneCheck = (c : Answer Verdict) (k m : ℕ) (r r' r'' : List ℕ) (w w' w'' : List Float) (iw iw' iw'' : List ℕ) → CheckLeaves c k r r' w w' iw iw' → CheckLeaves c m r r'' w w'' iw iw''
    → (k ≡ m) × (r' ≡ r'') × (w' ≡ w'') × (iw' ≡ iw'')
