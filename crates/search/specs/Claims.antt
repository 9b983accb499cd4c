-- What is shown of the written loop and of the machine, for every problem, start, budget and answer. Definitions only.
use Rattle.std.specs.Prelude.{ℕ, zero, suc, ◌≤◌, ◌<◌, ◌≡◌, Bool, true, false, cond, List, [], ◌∷◌, map, take, Float}
use Rattle.std.proofs.Math.Option.{some}
use Rattle.std.proofs.Math.ListN.{get_elem?}
use Rattle.std.specs.Float.Ieee.{lt}
use Rattle.numbers.specs.Numbers.{at}
use Rattle.workspace.specs.Tables.{done}
use Rattle.hessian.specs.Hessian.{identity, cholesky}
use Rattle.step.specs.Step.{step}
use Rattle.step_call.specs.Claims.{with_widths}
use Rattle.search.specs.Setup.{Setup, are_kinds, Report, Question, values, slopes, single, Ending, converged, infeasible, exhausted, nonfinite}
use Rattle.search.specs.Turn.{Iterate, Line, model_of, clipped, along}
use Rattle.search.specs.Written.{Script, ends, asks, over, waits, body, loop, written, stands, follow_all, play}
use Rattle.search.specs.Machine.{ended, begin, tell_all, standing}

-- The loop is its own body with itself as what comes next: the fuel of `turns` never shows.
abbrev pub Unrolls : Type 0
Unrolls = (p : Setup) (b : ℕ) (s : Iterate) → loop p b s ≡ body (loop p) p b s

-- Step for step: after any answers, as many as there may be, the machine asks what the written loop asks, or has ended as it has.
-- Nothing is asked of who answers: the lists are all that one could say, in reply to what was asked so far.
abbrev pub StepForStep : Type 0
StepForStep = (p : Setup) (x : List Float) (b : ℕ) (vs : List (List Float)) → standing p (tell_all p (begin p x b) vs) ≡ stands (follow_all (written p x b) vs)

-- A script begins another: it asks the same, as long as it asks, and where it ends the other ends alike; but where its budget is exhausted, the other may go on.
abbrev pub BeginsEnd : Ending → Report → Script → Type 0
BeginsEnd converged r t = t ≡ ends converged r
BeginsEnd infeasible r t = t ≡ ends infeasible r
BeginsEnd exhausted r t = Unit {0}
BeginsEnd nonfinite r t = t ≡ ends nonfinite r

abbrev pub Begins : Script → Script → Type 0
Begins (ends e r) t = BeginsEnd e r t
Begins (asks q k) t = (l : List Float → Script) × (t ≡ asks q l) × ((v : List Float) → Begins (k v) (l v))

abbrev pub LargerBudget : Type 0
LargerBudget = (p : Setup) (x : List Float) (b c : ℕ) → b ≤ c → Begins (written p x b) (written p x c)

-- The same of the machine: what it asks after some answers, it asks with a larger budget too.
abbrev pub SameQuestion : Type 0
SameQuestion = (p : Setup) (x : List Float) (b c : ℕ) → b ≤ c → (vs : List (List Float)) (q : Question)
    → standing p (tell_all p (begin p x b) vs) ≡ waits q → standing p (tell_all p (begin p x c) vs) ≡ waits q

-- once ended, a machine is as it was, whatever it is told
abbrev pub StaysEnded : Type 0
StaysEnded = (p : Setup) (e : Ending) (r : Report) (vs : List (List Float)) → tell_all p (ended e r) vs ≡ ended e r

-- Against any answerer, a function of what is asked: the machine asks the questions of the written loop's transcript, one after the other, and ends as it ends.
abbrev pub Answered : Type 0
Answered = (p : Setup) (x : List Float) (b : ℕ) (a : Question → List Float) →
    let t = play a (written p x b) in
    ((i : ℕ) (q : Question) → get_elem? t.asked i ≡ some q → standing p (tell_all p (begin p x b) (take i (map a t.asked))) ≡ waits q)
    × (standing p (tell_all p (begin p x b) (map a t.asked)) ≡ over t.ending t.report)

-- The identity is its own factor, so the loop needs it once where a B has none.
abbrev pub OwnFactor : Type 0
OwnFactor = (n : ℕ) → 1 ≤ n → n ≤ 16 → cholesky n (identity n) ≡ done (identity n)

-- No constraint is a band, so the step of a turn is what it is whatever the widths hold.
abbrev pub NoWidths : Type 0
NoWidths = (p : Setup) (l : List Float) (s : Iterate) (ws : List Float) → are_kinds p.kinds ≡ true → step (with_widths (model_of p l s) ws) ≡ step (model_of p l s)

-- What is asked for costs one if it has an objective value in it. No more than the budget is spent; and where a run ends as exhausted, all of it is.
abbrev pub is_charged : Question → Bool
is_charged (values x) = true
is_charged (slopes x) = false
is_charged (single zero x) = true
is_charged (single (suc j) x) = false

unfoldable pub spent : List Question → ℕ
spent [] = 0
spent (q ∷ qs) = cond (is_charged q) (suc (spent qs)) (spent qs)

abbrev pub Charged : Type 0
Charged = (p : Setup) (x : List Float) (b : ℕ) (a : Question → List Float) →
    let t = play a (written p x b) in
    (spent t.asked ≤ b) × (t.ending ≡ exhausted → spent t.asked ≡ b)

-- No coordinate of the clipped start or of a trial is below its lower bound or above its upper one (a NaN is neither), where the bounds are in order.
abbrev pub IsInside : Setup → (i : ℕ) → Float → Type 0
IsInside p i x = (lt x (at p.lower i) ≡ false) × (lt (at p.upper i) x ≡ false)

abbrev pub StaysInside : Type 0
StaysInside = (p : Setup) (i : ℕ) → i < p.n → lt (at p.upper i) (at p.lower i) ≡ false →
    ((x : List Float) → IsInside p i (at (clipped p x) i)) × ((s : Iterate) (line : Line) (α : Float) → IsInside p i (at (along p s line α) i))
