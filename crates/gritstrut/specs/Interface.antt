-- The C interface's promises: the number, and what the operation's own promise says of all that it leaves. Definitions only.
-- A single result is written through a pointer where the number is 0, a place where the refusal has one, and nothing is stored there else: from the answer c of a call, what stands behind each such pointer before and, primed, afterwards.
use Rattle.std.specs.Prelude.{◌≡◌, cond, ◌&&◌, List, [], ◌∷◌, eqb, ℕ, Float}
use Rattle.numbers.specs.Numbers.{nth}
use Rattle.tally.specs.Tally.{saturated}
use Rattle.workspace.specs.declared.Refusal.{Refusal}
use Rattle.workspace.specs.declared.Refusal.TheVariants.{Width}
use Rattle.workspace.specs.Tables.{Answer, number, number_of, output, place_of, nowhere, call, test, is_dimension, is_constraints, is_room, has}
use Rattle.workspace.specs.Tables.{Outcome}
use Rattle.std.specs.Prelude.{Result, Ok, Err}
use Rattle.workspace.specs.Tables as Tables
use Rattle.householder.specs.Qr.{Factors}
use Rattle.householder_call.specs.Promise as Qr
use Rattle.nnls_call.specs.Promise as Nnls
use Rattle.lsei.specs.Lsei.{Solution}
use Rattle.lsei_call.specs.Promise.{Solves}
use Rattle.hessian_call.specs.Promise.{Writes}
use Rattle.nnls.specs.Counted.{Counted}
use Rattle.step_rows.specs.Problem.{Problem}
use Rattle.step.specs.Step.{Step, step, stage_number, stage_place}
use Rattle.step.specs.declared.Report.{Report}
use Rattle.step_call.specs.Promise as Step
use Rattle.step_call.specs.Strict.{bounds}

pub record QrLeaves (c : Answer Factors) (k rank rank' : ℕ) (r r' : List Float) (perm perm' : List ℕ) (u u' b b' w w' : List Float) (iw iw' : List ℕ) : Type 0 where
  pub the_number : k ≡ number c
  pub the_call : Qr.Factored c (Qr.outcome_of c) r r' perm perm' u u' b b' w w' iw iw'
  pub the_rank : rank' ≡ output c (λ f. f.rank) rank

pub record NnlsLeaves (c : Answer Nnls.Told) (k rounds rounds' factorings factorings' : ℕ) (x x' w w' : List Float) (iw iw' : List ℕ) : Type 0 where
  pub the_number : k ≡ number c
  pub the_call : Nnls.Nnls c (Nnls.outcome_of c) x x' w w' iw iw'
  pub the_rounds : rounds' ≡ output c (λ t. t.rounds) rounds
  pub the_factorings : factorings' ≡ output c (λ t. t.factorings) factorings

pub record SolveLeaves (c : Answer Solution) (k : ℕ) (x x' l l' w w' : List Float) (iw iw' : List ℕ) : Type 0 where
  pub the_number : k ≡ number c
  pub the_call : Solves c (Tables.outcome_of c) x x' l l' w w' iw iw'

-- the place that comes with a refusal is stored where there is one
abbrev pub place_left : Outcome → ℕ → ℕ
place_left (Ok tt) old = old
place_left (Err r) old = cond (eqb (place_of r) nowhere) old (place_of r)

pub record PlaceLeaves (c : Answer Solution) (k place place' : ℕ) (x x' l l' w w' : List Float) (iw iw' : List ℕ) : Type 0 where
  pub the_number : k ≡ number c
  pub the_call : Solves c (Tables.outcome_of c) x x' l l' w w' iw iw'
  pub the_place : place' ≡ place_left (Tables.outcome_of c) place

pub record WriteLeaves (c : Answer (List Float)) (k : ℕ) (out out' w w' : List Float) (iw iw' : List ℕ) : Type 0 where
  pub the_number : k ≡ number c
  pub the_call : Writes c (Tables.outcome_of c) out out' w w' iw iw'

-- ---- the step, with its report in six entries and a tally of two counts

-- number and place of the exact stage, then of the relaxed one, rounds and factorings
abbrev pub entries_of : Report → List ℕ
entries_of t = stage_number t.exact ∷ stage_place t.exact ∷ stage_number t.relaxed ∷ stage_place t.relaxed ∷ t.rounds ∷ t.factorings ∷ []

-- a lent tally, rounds and then factorings, raised by what a step took
abbrev pub raised_counts : List ℕ → (rounds factorings : ℕ) → List ℕ
raised_counts y r f = saturated (nth y 0) r ∷ saturated (nth y 1) f ∷ []

-- the tests of a call and what follows them: the report's length is one of those that number 2 tests
abbrev pub report_call : Problem → (d multipliers : List Float) (report : List ℕ) (w : List Float) (iw : List ℕ) → Answer Step → Answer Step
report_call p d l r w iw a =
    call (is_dimension p.n && is_constraints p.m) (Step.are_lengths p d l && has r 6) (is_room w iw) (Step.are_kinds p.kinds) (test (Step.are_widths p.kinds p.widths p.m) Width a)

-- the whole call of the step, and of the strict step
abbrev pub step_report_call : Problem → (d multipliers : List Float) (report : List ℕ) (w : List Float) (iw : List ℕ) → Answer Step
step_report_call p d l r w iw = report_call p d l r w iw (step p).answer

abbrev pub strict_report_call : Problem → (d multipliers : List Float) (report : List ℕ) (w : List Float) (iw : List ℕ) → Answer Step
strict_report_call p d l r w iw = report_call p d l r w iw (bounds p.lower p.upper p.n 0 (step p).answer)

-- a test that names a variable: its number and the variable stand for the exact stage, and nothing was tried or spent
abbrev pub bound_entries : Refusal → List ℕ → List ℕ
bound_entries r old = cond (eqb (place_of r) nowhere) old (number_of r ∷ place_of r ∷ 0 ∷ nowhere ∷ 0 ∷ 0 ∷ [])

-- the number of a step that was tried, and its relaxation, stored where it is done
abbrev pub stepped_number : Result Float Refusal → ℕ
stepped_number (Ok relaxation) = 0
stepped_number (Err r) = number_of r

abbrev pub stepped_relaxation : Result Float Refusal → Float → Float
stepped_relaxation (Ok relaxation) old = relaxation
stepped_relaxation (Err r) old = old

-- From an outcome: the number; the relaxation, stored where the step is done; the tally, which moves unless a test before the arithmetic refuses; and the report, which such a test leaves too unless it names a variable.
abbrev pub number_told : Step.Outcome → ℕ
number_told (Ok s) = stepped_number s.relaxation
number_told (Err r) = number_of r

abbrev pub relaxation_left : Step.Outcome → Float → Float
relaxation_left (Ok s) old = stepped_relaxation s.relaxation old
relaxation_left (Err r) old = old

abbrev pub report_left : Step.Outcome → List ℕ → List ℕ
report_left (Ok s) old = entries_of s.report
report_left (Err r) old = bound_entries r old

abbrev pub tally_left : Step.Outcome → List ℕ → List ℕ
tally_left (Ok s) old = raised_counts old s.report.rounds s.report.factorings
tally_left (Err r) old = old

pub record Tells (o : Step.Outcome) (k : ℕ) (relaxation relaxation' : Float) (r r' tally tally' : List ℕ) : Type 0 where
  pub the_number : k ≡ number_told o
  pub the_relaxation : relaxation' ≡ relaxation_left o relaxation
  pub the_report : r' ≡ report_left o r
  pub the_tally : tally' ≡ tally_left o tally

pub record StepLeaves (c : Answer Step) (t : Report) (k : ℕ) (relaxation relaxation' : Float) (r r' tally tally' : List ℕ) (d d' l l' w w' : List Float) (iw iw' : List ℕ) : Type 0 where
  pub the_call : Step.Steps c t (Step.outcome_of c t) d d' l l' w w' iw iw'
  pub told : Tells (Step.outcome_of c t) k relaxation relaxation' r r' tally tally'
