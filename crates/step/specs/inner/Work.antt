-- What the step's inner functions are handed, leave in the workspace and answer: it serves their contracts alone. Definitions only.
use Rattle.std.specs.Prelude.{ℕ, ◌+◌, ◌≤◌, ◌≡◌, true, List, [], ◌∷◌, ◌++◌, length, Float, Result, Ok, Err}
use Rattle.numbers.specs.Numbers.{+0, transposed}
use Rattle.workspace.specs.Tables.{Answer, done, refused, Outcome, is_late}
use Rattle.workspace.specs.declared.Refusal.{Refusal}
use Rattle.workspace.specs.Readings.{vec, mat, stack}
use Rattle.nnls.specs.Counted.{Counted}
use Rattle.step_rows.specs.Problem.{Problem, matrix_of, sides_of, equality_rows, inequality_rows, relaxed_rows}
use Rattle.step.specs.Step.{Step, root_weight, relaxed_matrix, step, report_of}
use Rattle.lsei.specs.inner.Work.{sides}
use Rattle.step.specs.declared.Sizes.{Sizes}
use Rattle.step.specs.declared.Tried.{Tried}
use Rattle.step.specs.declared.Stepped.{Stepped}
use Rattle.step.specs.inner.Places.{STEP_D, STEP_MULTIPLIERS, EXACT_C, EXACT_X, EXACT_E, EXACT_F, EXACT_G, RELAXED_E, RELAXED_F, RELAXED_G}

-- ---- what is written for LSEI and LSI

-- the exact problem p with target f; f stays
pub record ExactIn (p : Problem) (f : List Float) (s : Sizes) (w : List Float) : Type 0 where
  pub few : s.equalities ≤ 16
  pub several : s.inequalities ≤ 64
  pub equalities : s.equalities ≡ length (equality_rows p)
  pub inequalities : s.inequalities ≡ length (inequality_rows p)
  pub the_c : stack EXACT_C s.equalities p.n w ≡ matrix_of (equality_rows p)
  pub the_d : vec EXACT_X s.equalities w ≡ sides_of (equality_rows p)
  pub the_e : stack EXACT_E p.n p.n w ≡ transposed p.n p.n p.factor
  pub the_f : vec EXACT_F p.n w ≡ f
  pub the_g : stack EXACT_G s.inequalities p.n w ≡ matrix_of (inequality_rows p)
  pub the_h : sides EXACT_G s.inequalities p.n w ≡ sides_of (inequality_rows p)
  pub front : vec 0 p.n w ≡ f

-- the relaxed problem, with g rows
pub record RelaxedIn (p : Problem) (f : List Float) (g : ℕ) (w : List Float) : Type 0 where
  pub several : g ≤ 66
  pub rows : g ≡ length (relaxed_rows p)
  pub the_e : mat RELAXED_E (p.n + 1) (p.n + 1) w ≡ relaxed_matrix p.n root_weight p.factor
  pub the_f : vec RELAXED_F (p.n + 1) w ≡ f ++ (+0 ∷ [])
  pub the_g : stack RELAXED_G g (p.n + 1) w ≡ matrix_of (relaxed_rows p)
  pub the_h : sides RELAXED_G g (p.n + 1) w ≡ sides_of (relaxed_rows p)
  pub front : vec 0 p.n w ≡ f

-- ---- what is read from their answers

-- the step d and the multipliers l are left, and the target stays
pub record Left (n m : ℕ) (d l w w' : List Float) : Type 0 where
  pub the_d : vec STEP_D n w' ≡ d
  pub the_multipliers : vec STEP_MULTIPLIERS m w' ≡ l
  pub front : vec 0 n w' ≡ vec 0 n w

-- ---- what is answered

-- a relaxation, with the step d and the multipliers l that were left, or a failure
abbrev pub answer_of : Result Float Refusal → (d l : List Float) → Answer Step
answer_of (Ok relaxation) d l = done (record { d = d; multipliers = l; relaxation = relaxation })
answer_of (Err r) d l = refused r

abbrev pub tried_step : Tried → (d l : List Float) → Counted Step
tried_step t d l = record { answer = answer_of t.relaxation d l; rounds = t.rounds; factorings = t.factorings }

-- the same, as it stands in the workspace
abbrev pub tried_step_in : (n m : ℕ) → Tried → List Float → Counted Step
tried_step_in n m r w = tried_step r (vec STEP_D n w) (vec STEP_MULTIPLIERS m w)

-- how its stage ended
abbrev pub passed_or_failed : Result Float Refusal → Outcome
passed_or_failed (Ok relaxation) = Ok tt
passed_or_failed (Err r) = Err r

-- the exact problem's answer as the step's, where the relaxed one is not tried
unfoldable pub unrelaxed : Tried → Stepped
unrelaxed t = record {
  relaxation = t.relaxation;
  report = record { exact = passed_or_failed t.relaxation; relaxed = Ok tt; rounds = t.rounds; factorings = t.factorings };
}

-- the relaxed problem's answer as the step's, after the exact one failed and took its counts
unfoldable pub later : (first second : Tried) → Stepped
later t u = record {
  relaxation = u.relaxation;
  report = record {
    exact = passed_or_failed t.relaxation;
    relaxed = passed_or_failed u.relaxation;
    rounds = t.rounds + u.rounds;
    factorings = t.factorings + u.factorings;
  };
}

-- a refusal of the arithmetic is one of those after which the workspaces are cleared
abbrev pub IsLate : Result Float Refusal → Type 0
IsLate (Ok relaxation) = Unit
IsLate (Err r) = is_late r ≡ true

-- one of the two problems answers c: what it left and took, and the target stays
pub record Tries (c : Counted Step) (n m : ℕ) (r : Tried) (w w' : List Float) : Type 0 where
  pub answer : tried_step_in n m r w' ≡ c
  pub front : vec 0 n w' ≡ vec 0 n w
  pub rounds : r.rounds ≤ 198
  pub factorings : r.factorings ≤ 13334
  pub late : IsLate r.relaxation

-- ---- what the step ends with

-- its answer, with the step d and the multipliers l that it left
abbrev pub stepped_answer : Stepped → (d l : List Float) → Answer Step
stepped_answer r d l = answer_of r.relaxation d l

-- the step of the problem p: the answer that it left in the workspace, and its report
pub record EndsStep (n m : ℕ) (r : Stepped) (w : List Float) (p : Problem) : Type 0 where
  pub the_answer : stepped_answer r (vec STEP_D n w) (vec STEP_MULTIPLIERS m w) ≡ (step p).answer
  pub the_report : r.report ≡ report_of p
  pub late : IsLate r.relaxation
