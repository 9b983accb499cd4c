-- The step as it was before there were bands, when a kind was 0 or 1: an equality, or an inequality. No promise rests on this page. `AsBefore` and `CallsAsBefore` compare with it; it has no word of the widths. Definitions only.
use Rattle.std.specs.Prelude.{ℕ, zero, suc, ◌+◌, ◌*◌, Bool, true, false, cond, ◌&&◌, List, [], ◌∷◌, ◌++◌, eqb, leb, length, take, Float}
use Rattle.std.specs.Float.Ieee.{neg}
use Rattle.numbers.specs.Numbers.{+0, ◌⊖◌, at, nth, row, transposed}
use Rattle.workspace.specs.Tables.{Answer, done, call, is_dimension, is_constraints, is_room, has}
use Rattle.nnls.specs.Counted.{Counted, and_then}
use Rattle.lsei.specs.Lsei.{Solution, lsi, lsei}
use Rattle.step_rows.specs.Problem.{Problem, Row, row_of, matrix_of, sides_of, each, bound_rows, opposed_rows, loosened_row, delta_rows}
use Rattle.step.specs.Step.{Step, target, root_weight, relaxed_matrix, clamped, or_relaxed, reported}
use Rattle.step.specs.declared.Report.{Report}

-- ---- rows

abbrev pub is_equality : Problem → ℕ → Bool
is_equality p j = eqb (nth p.kinds j) 0

abbrev pub exact_row : Problem → ℕ → Row
exact_row p j = row_of (row p.n j p.jacobian) (neg (at p.values j))

unfoldable pub equality_rows : Problem → List Row
equality_rows p = each p.m (λ j. cond (is_equality p j) (exact_row p j ∷ []) [])

unfoldable pub inequality_rows : Problem → List Row
inequality_rows p = each p.m (λ j. cond (is_equality p j) [] (exact_row p j ∷ [])) ++ bound_rows p.n p

abbrev pub relaxed_of : Bool → List Float → Float → List Row
relaxed_of true a c = opposed_rows a c
relaxed_of false a c = loosened_row a c ∷ []

unfoldable pub relaxed_rows : Problem → List Row
relaxed_rows p =
    each p.m (λ j. relaxed_of (is_equality p j) (row p.n j p.jacobian) (at p.values j))
    ++ (bound_rows (p.n + 1) p ++ delta_rows p.n)

-- ---- multipliers in constraint order

unfoldable pub in_order : (kinds : List ℕ) (e i : ℕ) (l : List Float) → List Float
in_order [] e i l = []
in_order (zero ∷ ks) e i l = at l e ∷ in_order ks (suc e) i l
in_order (suc k ∷ ks) e i l = at l i ∷ in_order ks e (suc i) l

unfoldable pub paired : (kinds : List ℕ) (next : ℕ) (l : List Float) → List Float
paired [] next l = []
paired (zero ∷ ks) next l = (at l next ⊖ at l (next + 1)) ∷ paired ks (next + 2) l
paired (suc k ∷ ks) next l = at l next ∷ paired ks (next + 1) l

-- ---- the two problems, the step and its report

unfoldable pub exact_step : Problem → ℕ → Solution → Step
exact_step p equalities s = record { d = s.x; multipliers = in_order p.kinds 0 equalities s.multipliers; relaxation = +0 }

unfoldable pub exact : Problem → List Float → Counted Step
exact p f =
    let n = p.n in
    let eqs = equality_rows p in
    let ineqs = inequality_rows p in
    let c = length eqs in
    and_then (lsei n c n (length ineqs) (matrix_of eqs) (sides_of eqs) (transposed n n p.factor) f (matrix_of ineqs) (sides_of ineqs))
    (λ s. done (exact_step p c s))

unfoldable pub relaxed_step : Problem → Solution → Step
relaxed_step p s = record { d = take p.n s.x; multipliers = paired p.kinds 0 s.multipliers; relaxation = clamped (at s.x p.n) }

unfoldable pub relaxed : Problem → List Float → Counted Step
relaxed p f =
    let rs = relaxed_rows p in
    and_then (lsi (p.n + 1) (p.n + 1) (length rs) (relaxed_matrix p.n root_weight p.factor) (f ++ (+0 ∷ [])) (matrix_of rs) (sides_of rs)) (λ s. done (relaxed_step p s))

unfoldable pub step : Problem → Counted Step
step p =
    let f = target p in
    let first = exact p f in
    or_relaxed first.answer first (relaxed p f)

unfoldable pub report_of : Problem → Report
report_of p =
    let f = target p in
    let first = exact p f in
    reported first.answer first (relaxed p f)

-- ---- the call

unfoldable pub are_kinds : List ℕ → Bool
are_kinds [] = true
are_kinds (k ∷ ks) = leb k 1 && are_kinds ks

abbrev pub are_lengths : Problem → (d multipliers : List Float) → Bool
are_lengths p d l =
    has p.factor (p.n * p.n) && has p.gradient p.n && has p.kinds p.m && has p.values p.m && has p.jacobian (p.m * p.n)
    && has p.lower p.n && has p.upper p.n && has d p.n && has l p.m

abbrev pub step_call : Problem → (d multipliers w : List Float) (iw : List ℕ) → Answer Step
step_call p d l w iw = call (is_dimension p.n && is_constraints p.m) (are_lengths p d l) (is_room w iw) (are_kinds p.kinds) (step p).answer
