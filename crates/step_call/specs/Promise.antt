-- What a call of the public step answers and leaves. Definitions only.
use Rattle.std.specs.Prelude.{ℕ, zero, suc, ◌*◌, ◌≡◌, Bool, true, false, ◌&&◌, List, [], ◌∷◌, leb, Float, Result, Ok, Err}
use Rattle.std.specs.Float.{inf}
use Rattle.std.specs.Float.Ieee.{lt, le}
use Rattle.numbers.specs.Numbers.{+0, at, nth}
use Rattle.workspace.specs.declared.Refusal.{Refusal}
use Rattle.workspace.specs.declared.Refusal.TheVariants.{Width}
use Rattle.workspace.specs.Tables.{Answer, done, refused, is_late, call, test, output, floats, words, is_dimension, is_constraints, is_room, has}
use Rattle.step_rows.specs.Problem.{Problem, constraint_of}
use Rattle.step_rows.specs.declared.Constraint.{Constraint}
use Rattle.step_rows.specs.declared.Constraint.TheVariants.{Equality, Floor, Band}
use Rattle.step.specs.Step.{Step, step}
use Rattle.step.specs.declared.Report.{Report}
use Rattle.step.specs.declared.Stepped.{Stepped}

-- every kind is 0, 1 or 2
unfoldable pub are_kinds : List ℕ → Bool
are_kinds [] = true
are_kinds (k ∷ ks) = leb k 2 && are_kinds ks

-- a band's width is at least zero and finite: not NaN, and -0 is a width; other constraints have none
abbrev pub is_width : Constraint → Bool
is_width Equality = true
is_width Floor = true
is_width (Band w) = le +0 w && lt w (inf false)

-- those of the first j constraints
unfoldable pub are_widths : (kinds : List ℕ) (widths : List Float) (j : ℕ) → Bool
are_widths ks ws zero = true
are_widths ks ws (suc j) = are_widths ks ws j && is_width (constraint_of (nth ks j) (at ws j))

abbrev pub are_lengths : Problem → (d multipliers : List Float) → Bool
are_lengths p d l =
    has p.factor (p.n * p.n) && has p.gradient p.n && has p.kinds p.m && has p.values p.m && has p.jacobian (p.m * p.n)
    && has p.widths p.m && has p.lower p.n && has p.upper p.n && has d p.n && has l p.m

-- the whole call, on all that it is lent: the widths are tested directly after the kinds
abbrev pub step_call : Problem → (d multipliers w : List Float) (iw : List ℕ) → Answer Step
step_call p d l w iw =
    call (is_dimension p.n && is_constraints p.m) (are_lengths p d l) (is_room w iw) (are_kinds p.kinds) (test (are_widths p.kinds p.widths p.m) Width (step p).answer)

-- what a call tells: the step's relaxation, or why it failed, with its report; or why a test before it refuses
abbrev pub Outcome : Type 0
Outcome = Result Stepped Refusal

abbrev pub stepped : Result Float Refusal → Report → Stepped
stepped relaxation t = record { relaxation = relaxation; report = t }

-- a refusal of the arithmetic tells the report, one of the tests before it has none
abbrev pub refused_by : Bool → Refusal → Report → Outcome
refused_by true r t = Ok (stepped (Err r) t)
refused_by false r t = Err r

-- where it is done, the relaxation and the report
abbrev pub outcome_of : Answer Step → Report → Outcome
outcome_of (done s) t = Ok (stepped (Ok s.relaxation) t)
outcome_of (refused r) t = refused_by (is_late r) r t

-- From its answer c and the step's report t: the outcome o, and what d, the multipliers l and the workspaces hold before and, primed, afterwards.
pub record Steps (c : Answer Step) (t : Report) (o : Outcome) (d d' l l' w w' : List Float) (iw iw' : List ℕ) : Type 0 where
  pub the_outcome : o ≡ outcome_of c t
  pub the_d : d' ≡ output c (λ s. s.d) d
  pub the_multipliers : l' ≡ output c (λ s. s.multipliers) l
  pub the_floats : w' ≡ floats c w
  pub the_words : iw' ≡ words c iw
