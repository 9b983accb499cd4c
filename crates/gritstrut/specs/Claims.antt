-- The C interface's promises allow one answer only: the number, what stands behind each pointer and all that is left are fixed by what was there before. And what a step's report and tally hold of its cost. Definitions only.
use Rattle.std.specs.Prelude.{◌≡◌, List, ◌⊎◌, ℕ, ◌+◌, ◌≤◌, Float}
use Rattle.numbers.specs.Numbers.{nth}
use Rattle.workspace.specs.Tables.{Answer}
use Rattle.householder.specs.Qr.{Factors}
use Rattle.nnls_call.specs.Promise.{Told}
use Rattle.lsei.specs.Lsei.{Solution}
use Rattle.step_rows.specs.Problem.{Problem}
use Rattle.step.specs.Step.{Step, report_of}
use Rattle.step.specs.declared.Report.{Report}
use Rattle.step_call.specs.Claims.{cost_bound}
use Rattle.gritstrut.specs.Interface.{QrLeaves, NnlsLeaves, SolveLeaves, PlaceLeaves, WriteLeaves, step_report_call, strict_report_call, StepLeaves}

abbrev pub OneQr : Type 0
OneQr = (c : Answer Factors) (k l rank rank' rank'' : ℕ) (r r' r'' : List Float) (perm perm' perm'' : List ℕ) (u u' u'' b b' b'' w w' w'' : List Float) (iw iw' iw'' : List ℕ)
    → QrLeaves c k rank rank' r r' perm perm' u u' b b' w w' iw iw' → QrLeaves c l rank rank'' r r'' perm perm'' u u'' b b'' w w'' iw iw''
    → (k ≡ l) × (rank' ≡ rank'') × (r' ≡ r'') × (perm' ≡ perm'') × (u' ≡ u'') × (b' ≡ b'') × (w' ≡ w'') × (iw' ≡ iw'')

abbrev pub OneNnls : Type 0
OneNnls = (c : Answer Told) (k l rounds rounds' rounds'' factorings factorings' factorings'' : ℕ) (x x' x'' w w' w'' : List Float) (iw iw' iw'' : List ℕ)
    → NnlsLeaves c k rounds rounds' factorings factorings' x x' w w' iw iw' → NnlsLeaves c l rounds rounds'' factorings factorings'' x x'' w w'' iw iw''
    → (k ≡ l) × (rounds' ≡ rounds'') × (factorings' ≡ factorings'') × (x' ≡ x'') × (w' ≡ w'') × (iw' ≡ iw'')

abbrev pub OneSolve : Type 0
OneSolve = (c : Answer Solution) (k m : ℕ) (x x' x'' l l' l'' w w' w'' : List Float) (iw iw' iw'' : List ℕ)
    → SolveLeaves c k x x' l l' w w' iw iw' → SolveLeaves c m x x'' l l'' w w'' iw iw'' → (k ≡ m) × (x' ≡ x'') × (l' ≡ l'') × (w' ≡ w'') × (iw' ≡ iw'')

abbrev pub OnePlace : Type 0
OnePlace = (c : Answer Solution) (k m place place' place'' : ℕ) (x x' x'' l l' l'' w w' w'' : List Float) (iw iw' iw'' : List ℕ)
    → PlaceLeaves c k place place' x x' l l' w w' iw iw' → PlaceLeaves c m place place'' x x'' l l'' w w'' iw iw''
    → (k ≡ m) × (place' ≡ place'') × (x' ≡ x'') × (l' ≡ l'') × (w' ≡ w'') × (iw' ≡ iw'')

abbrev pub OneWrite : Type 0
OneWrite = (c : Answer (List Float)) (k m : ℕ) (out out' out'' w w' w'' : List Float) (iw iw' iw'' : List ℕ)
    → WriteLeaves c k out out' w w' iw iw' → WriteLeaves c m out out'' w w'' iw iw'' → (k ≡ m) × (out' ≡ out'') × (w' ≡ w'') × (iw' ≡ iw'')

-- The step's tallies may differ: no other answer depends on them, and each tally is raised by itself.
abbrev pub OneStep : Type 0
OneStep = (c : Answer Step) (t : Report) (k m : ℕ) (relaxation relaxation' relaxation'' : Float) (r r' r'' y y' z z' : List ℕ) (d d' d'' l l' l'' w w' w'' : List Float) (iw iw' iw'' : List ℕ)
    → StepLeaves c t k relaxation relaxation' r r' y y' d d' l l' w w' iw iw' → StepLeaves c t m relaxation relaxation'' r r'' z z' d d'' l l'' w w'' iw iw''
    → (k ≡ m) × (relaxation' ≡ relaxation'') × (r' ≡ r'') × (y ≡ z → y' ≡ z') × (d' ≡ d'') × (l' ≡ l'') × (w' ≡ w'') × (iw' ≡ iw'')

-- ---- what a step costs, as C is told

-- what gritstrut_step or gritstrut_strict_step left: the report was r and is r', the tally was y and is y'
abbrev pub EitherLeaves : Problem → (k : ℕ) (relaxation relaxation' : Float) (r r' y y' : List ℕ) (d d' l l' w w' : List Float) (iw iw' : List ℕ) → Type 0
EitherLeaves p k relaxation relaxation' r r' y y' d d' l l' w w' iw iw' =
    StepLeaves (step_report_call p d l r w iw) (report_of p) k relaxation relaxation' r r' y y' d d' l l' w w' iw iw'
    ⊎ StepLeaves (strict_report_call p d l r w iw) (report_of p) k relaxation relaxation' r r' y y' d d' l l' w w' iw iw'

-- a report is as it was or tells at most so many factorings, and a tally has at most so many more
abbrev pub Costs : ℕ → (r r' y y' : List ℕ) → Type 0
Costs most r r' y y' = ((r' ≡ r) ⊎ (nth r' 5 ≤ most)) × (nth y' 1 ≤ nth y 1 + most)

abbrev pub CostTold : Type 0
CostTold = (p : Problem) (k : ℕ) (relaxation relaxation' : Float) (r r' y y' : List ℕ) (d d' l l' w w' : List Float) (iw iw' : List ℕ)
    → EitherLeaves p k relaxation relaxation' r r' y y' d d' l l' w w' iw iw' → Costs (cost_bound p) r r' y y' × Costs 25879 r r' y y'
