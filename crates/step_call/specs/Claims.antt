-- What is shown of the step and of its calls: its multipliers, that without bands they are as before, what it reads of the factor, what it costs, how the strict step differs, and that the promise allows one answer only. Definitions only.
use Rattle.std.specs.Prelude.{◌≡◌, true, false, ◌&&◌, List, [], ◌∷◌, ◌⊎◌, ℕ, ◌+◌, ◌-◌, ◌*◌, ◌<◌, ◌≤◌, length, take, Float, Result, Ok, Err}
use Rattle.numbers.specs.Numbers.{◌⊖◌, at, nth, transposed, SameLower}
use Rattle.workspace.specs.Tables.{Answer, done, refused, is_dimension, is_constraints, is_room, has}
use Rattle.workspace.specs.declared.Refusal.{Refusal}
use Rattle.workspace.specs.declared.Refusal.TheVariants.{Deficient, Dependent, Bound}
use Rattle.householder.specs.Qr.{Factors, factor}
use Rattle.nnls.specs.Claims.{NotNegative}
use Rattle.lsei.specs.Lsei.{Solution}
use Rattle.lsei_call.specs.Claims.{ClearFrom, IsNext, of_equalities, of_rest}
use Rattle.step_rows.specs.Problem.{Problem, problem_of, by_kind, constraint_at, matrix_of, equality_rows, inequality_rows, relaxed_rows}
use Rattle.step_rows.specs.declared.Constraint.{Constraint}
use Rattle.step_rows.specs.declared.Constraint.TheVariants.{Equality, Floor, Band}
use Rattle.step.specs.Step.{Step, target, exact_solution, root_weight, relaxed_matrix, relaxed_solution, relaxed, step, report_of}
use Rattle.step.specs.declared.Report.{Report}
use Rattle.step_call.specs.Promise.{are_kinds, are_widths, are_lengths, step_call, Outcome, stepped, outcome_of, Steps}
use Rattle.step_call.specs.Strict.{is_bounded, bounds, strict_call}
use Rattle.step_call.specs.NoBands as NoBands

-- ---- multipliers

-- no multiplier of a row that is an inequality is negative or -0, in either problem
abbrev pub RowsClear : Type 0
RowsClear = (p : Problem) (f : List Float)
    → ClearFrom (length (equality_rows p)) (length (inequality_rows p)) (exact_solution p f).answer × ClearFrom 0 (length (relaxed_rows p)) (relaxed_solution p f).answer

-- ---- of calls

-- what a call of the step, or of the strict step, answered and left
abbrev pub EitherSteps : Problem → Outcome → (d d' l l' w w' : List Float) (iw iw' : List ℕ) → Type 0
EitherSteps p o d d' l l' w w' iw iw' =
    Steps (step_call p d l w iw) (report_of p) o d d' l l' w w' iw iw' ⊎ Steps (strict_call p d l w iw) (report_of p) o d d' l l' w w' iw iw'

-- how many rows constraints of some kinds have, where an equality has e, a floor f and a band b
unfoldable pub rows_of : (e f b : ℕ) (kinds : List ℕ) → ℕ
rows_of e f b [] = 0
rows_of e f b (k ∷ ks) = by_kind k e f b + rows_of e f b ks

-- the difference of two multipliers side by side, neither of them negative or -0
abbrev pub Pair : (l : List Float) (i : ℕ) → Float → Type 0
Pair l i v = (v ≡ at l i ⊖ at l (i + 1)) × NotNegative (at l i) × NotNegative (at l (i + 1))

-- a multiplier that is not negative or -0
abbrev pub Single : (l : List Float) (i : ℕ) → Float → Type 0
Single l i v = (v ≡ at l i) × NotNegative v

-- a constraint's multiplier by those of the exact problem's rows, where its own stand at e among the equalities, and at i as an inequality
abbrev pub OfExact : Constraint → (l : List Float) (e i : ℕ) → Float → Type 0
OfExact Equality l e i v = v ≡ at l e
OfExact Floor l e i v = Single l i v
OfExact (Band w) l e i v = Pair l i v

-- and by those of the relaxed problem's, where its own stand at i
abbrev pub OfRelaxed : Constraint → (l : List Float) (i : ℕ) → Float → Type 0
OfRelaxed Equality l i v = Pair l i v
OfRelaxed Floor l i v = Single l i v
OfRelaxed (Band w) l i v = Pair l i v

-- the multiplier v of constraint j is of its own rows in the exact solution, or, where the exact problem failed, in the relaxed one; rows stand in the order of the constraints
pub data OfRows (p : Problem) (j : ℕ) (v : Float) : Type 0 where
  of_exact : (s : Solution) → (exact_solution p (target p)).answer ≡ done s
      → OfExact (constraint_at p j) s.multipliers (rows_of 1 0 0 (take j p.kinds)) (length (equality_rows p) + rows_of 0 1 2 (take j p.kinds)) v → OfRows p j v
  of_relaxed_holds : (r : Refusal) (s : Solution) → (exact_solution p (target p)).answer ≡ refused r → (relaxed_solution p (target p)).answer ≡ done s
      → OfRelaxed (constraint_at p j) s.multipliers (rows_of 2 1 2 (take j p.kinds)) v → OfRows p j v

-- so is each that a done call leaves
abbrev pub StepCallClear : Type 0
StepCallClear = (p : Problem) (relaxation : Float) (t : Report) (d d' l l' w w' : List Float) (iw iw' : List ℕ) → EitherSteps p (Ok (stepped (Ok relaxation) t)) d d' l l' w w' iw iw'
    → (j : ℕ) → j < p.m → OfRows p j (at l' j)

-- ---- where rank was lost

-- what the relaxed problem factors, and what the exact one does: the equalities' rows, and what is left of L'
abbrev pub of_relaxed : Problem → Factors
of_relaxed p = factor (p.n + 1) (p.n + 1) (relaxed_matrix p.n root_weight p.factor)

abbrev pub of_equations : Problem → Factors
of_equations p = of_equalities p.n (length (equality_rows p)) (matrix_of (equality_rows p))

abbrev pub of_nullspace : Problem → Factors
of_nullspace p = of_rest p.n (length (equality_rows p)) p.n (matrix_of (equality_rows p)) (transposed p.n p.n p.factor)

-- The places of a report's stages: the exact one's 11 names an equality's row and its 5 a column of what is left, the relaxed one's 5 a column of its matrix; it has no 11.
pub record StagePlaces (p : Problem) (t : Report) : Type 0 where
  pub exact_eleven : (place : ℕ) → t.exact ≡ Err (Dependent place) → IsNext (length (equality_rows p)) (of_equations p) place
  pub exact_five : (place : ℕ) → t.exact ≡ Err (Deficient place)
      → ((of_equations p).rank ≡ length (equality_rows p)) × IsNext (p.n - length (equality_rows p)) (of_nullspace p) place
  pub relaxed_five : (place : ℕ) → t.relaxed ≡ Err (Deficient place) → IsNext (p.n + 1) (of_relaxed p) place
  pub never_eleven : (place : ℕ) → t.relaxed ≡ Err (Dependent place) → ⊥

-- so of what a call tells: its 5 is the relaxed stage's, and it never answers 11
abbrev pub StepPlaces : Problem → Result Float Refusal → Report → Type 0
StepPlaces p (Ok relaxation) t = StagePlaces p t
StepPlaces p (Err r) t = StagePlaces p t × ((place : ℕ) → r ≡ Deficient place → IsNext (p.n + 1) (of_relaxed p) place) × ((place : ℕ) → r ≡ Dependent place → ⊥)

abbrev pub PlacesTold : Problem → Outcome → Type 0
PlacesTold p (Ok s) = StepPlaces p s.relaxation s.report
PlacesTold p (Err r) = ((place : ℕ) → r ≡ Deficient place → ⊥) × ((place : ℕ) → r ≡ Dependent place → ⊥)

abbrev pub StepPlaced : Type 0
StepPlaced = (p : Problem) (o : Outcome) (d d' l l' w w' : List Float) (iw iw' : List ℕ) → EitherSteps p o d d' l l' w w' iw iw' → PlacesTold p o

-- ---- without bands every answer is as before

-- p with other widths
abbrev pub with_widths : Problem → List Float → Problem
with_widths p ws = problem_of p.n p.m p.factor p.gradient p.kinds p.values ws p.jacobian p.lower p.upper

-- the answer with what it took, and the report: kinds are 0 and 1, whatever the widths hold
abbrev pub AsBefore : Type 0
AsBefore = (p : Problem) (ws : List Float) → NoBands.are_kinds p.kinds ≡ true → (step (with_widths p ws) ≡ NoBands.step p) × (report_of (with_widths p ws) ≡ NoBands.report_of p)

-- whole calls, their refusals among them, and what they tell: no kind is 2
abbrev pub CallsAsBefore : Type 0
CallsAsBefore = (p : Problem) (ws d l w : List Float) (iw : List ℕ) → has ws p.m ≡ true → ((j : ℕ) → nth p.kinds j ≡ 2 → ⊥)
    → (step_call (with_widths p ws) d l w iw ≡ NoBands.step_call p d l w iw)
    × (outcome_of (step_call (with_widths p ws) d l w iw) (report_of (with_widths p ws)) ≡ outcome_of (NoBands.step_call p d l w iw) (NoBands.report_of p))

-- ---- what it reads of the factor

-- p with another factor
abbrev pub with_factor : Problem → List Float → Problem
with_factor p l = problem_of p.n p.m l p.gradient p.kinds p.values p.widths p.jacobian p.lower p.upper

-- the solve for f and the relaxed problem read only the lower triangle of the factor
abbrev pub ReadLower : Type 0
ReadLower = (p : Problem) (l f : List Float) → SameLower p.n p.factor l → (target (with_factor p l) ≡ target p) × (relaxed (with_factor p l) f ≡ relaxed p f)

-- ---- what a step costs in QR factorings

-- with p exact inequality rows and q relaxed rows at most 3 + (3p^2 + 4p) + (3q^2 + 4q)
abbrev pub most : ℕ → ℕ
most rows = 3 * (rows * rows) + 4 * rows

abbrev pub cost_bound : Problem → ℕ
cost_bound p = 3 + most (length (inequality_rows p)) + most (length (relaxed_rows p))

-- what a call reports; one that a test refuses takes none
abbrev pub factorings_told : Outcome → ℕ
factorings_told (Ok s) = s.report.factorings
factorings_told (Err r) = 0

-- so of every call, done or refused
abbrev pub CostBound : Type 0
CostBound = (p : Problem) (o : Outcome) (d d' l l' w w' : List Float) (iw iw' : List ℕ) → EitherSteps p o d d' l l' w w' iw iw' → factorings_told o ≤ cost_bound p

-- and so, of 64 and 66 rows at most, no call takes more than this
abbrev pub CostMost : Type 0
CostMost = (p : Problem) (o : Outcome) (d d' l l' w w' : List Float) (iw iw' : List ℕ) → EitherSteps p o d d' l l' w w' iw iw' → factorings_told o ≤ 25879

-- ---- the strict step

-- every bound is a number, or open as it should be, and what follows the tests answers; or here is the lowest variable of which that is not so
pub data LowestBound {A : Type 0} (lower upper : List Float) (n : ℕ) (a c : Answer A) : Type 0 where
  all_bounded : ((i : ℕ) → i < n → is_bounded lower upper i ≡ true) → c ≡ a → LowestBound lower upper n a c
  wrong_bound : (i : ℕ) → i < n → ((j : ℕ) → j < i → is_bounded lower upper j ≡ true) → is_bounded lower upper i ≡ false → c ≡ refused (Bound i)
      → LowestBound lower upper n a c

abbrev pub LowestVariable : Type 1
LowestVariable = (A : Type 0) (lower upper : List Float) (n : ℕ) (a : Answer A) → LowestBound {A = A} lower upper n a (bounds lower upper n 0 a)

-- sizes, lengths, workspaces, kinds and widths are right
abbrev pub Tested : Problem → (d l w : List Float) (iw : List ℕ) → Type 0
Tested p d l w iw =
    ((is_dimension p.n && is_constraints p.m) ≡ true) × (are_lengths p d l ≡ true) × (is_room w iw ≡ true) × (are_kinds p.kinds ≡ true) × (are_widths p.kinds p.widths p.m ≡ true)

-- nothing that a call is lent has changed
abbrev pub Untouched : (d d' l l' w w' : List Float) (iw iw' : List ℕ) → Type 0
Untouched d d' l l' w w' iw iw' = (d' ≡ d) × (l' ≡ l) × (w' ≡ w) × (iw' ≡ iw)

-- Of a strict call's outcome o and what it leaves: these are right, and it is refused by 15 of the lowest variable with a bound that means nothing; or one of them is not, or every bound means something, and it is the step.
pub data StrictTold (p : Problem) (o : Outcome) (d d' l l' w w' : List Float) (iw iw' : List ℕ) : Type 0 where
  lowest_told : Tested p d l w iw → (i : ℕ) → i < p.n → ((j : ℕ) → j < i → is_bounded p.lower p.upper j ≡ true) → is_bounded p.lower p.upper i ≡ false
      → o ≡ Err (Bound i) → Untouched d d' l l' w w' iw iw' → StrictTold p o d d' l l' w w' iw iw'
  as_step : (Tested p d l w iw → (i : ℕ) → i < p.n → is_bounded p.lower p.upper i ≡ true) → Steps (step_call p d l w iw) (report_of p) o d d' l l' w w' iw iw'
      → StrictTold p o d d' l l' w w' iw iw'

abbrev pub StrictIsStep : Type 0
StrictIsStep = (p : Problem) (o : Outcome) (d d' l l' w w' : List Float) (iw iw' : List ℕ) → Steps (strict_call p d l w iw) (report_of p) o d d' l l' w w' iw iw' → StrictTold p o d d' l l' w w' iw iw'

-- ---- that the promise allows one answer only

-- whatever the answer c, the outcome and all that is left are fixed by what was there before
abbrev pub OneAnswer : Type 0
OneAnswer = (c : Answer Step) (t : Report) (o p : Outcome) (d d' d'' l l' l'' w w' w'' : List Float) (iw iw' iw'' : List ℕ)
    → Steps c t o d d' l l' w w' iw iw' → Steps c t p d d'' l l'' w w'' iw iw'' → (o ≡ p) × (d' ≡ d'') × (l' ≡ l'') × (w' ≡ w'') × (iw' ≡ iw'')
