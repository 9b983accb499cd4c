-- The step: the exact problem through LSEI, and where it fails the relaxed one through LSI (docs/RULES.md, "The step"; Kraft 1988). Definitions only.
use Rattle.std.specs.Prelude.{ℕ, ◌+◌, cond, ◌&&◌, List, [], ◌∷◌, ◌++◌, map, leb, ltb, eqb, length, take, Float, Ok, Err}
use Rattle.std.specs.Float.Ieee.{lt, neg}
use Rattle.numbers.specs.Numbers.{+0, near, one, ◌⊖◌, at, entry, grid, transposed}
use Rattle.workspace.specs.Tables.{Answer, done, refused, Outcome, outcome_number, place_of, nowhere}
use Rattle.householder.specs.Qr.{downward}
use Rattle.nnls.specs.Counted.{Counted, and_then, after}
use Rattle.lsei.specs.Lsei.{Solution, lsi, lsei}
use Rattle.step_rows.specs.Problem.{Problem, by_kind, matrix_of, sides_of, equality_rows, inequality_rows, relaxed_rows}
use Rattle.step.specs.declared.Report.{Report}

-- d, one multiplier per constraint in constraint order, and the relaxation delta
pub record Step : Type 0 where
  pub d : List Float
  pub multipliers : List Float
  pub relaxation : Float

-- f = -L^-1 g, by forward substitution: it reads the lower triangle of L
unfoldable pub target : Problem → List Float
target p = map neg (downward p.n (transposed p.n p.n p.factor) p.n p.gradient)

-- ---- the exact problem: E is L', the whole square of it

-- The multipliers come equalities first, then the rows of floors and bands: e of the former and i places of all are passed. A band's is that of its first row less that of its second.
unfoldable pub in_order : (kinds : List ℕ) (e i : ℕ) (l : List Float) → List Float
in_order [] e i l = []
in_order (k ∷ ks) e i l = by_kind k (at l e) (at l i) (at l i ⊖ at l (i + 1)) ∷ in_order ks (by_kind k (e + 1) e e) (by_kind k i (i + 1) (i + 2)) l

unfoldable pub exact_step : Problem → ℕ → Solution → Step
exact_step p equalities s = record { d = s.x; multipliers = in_order p.kinds 0 equalities s.multipliers; relaxation = +0 }

-- its solution, with a multiplier for each row
abbrev pub exact_solution : Problem → List Float → Counted Solution
exact_solution p f =
    let n = p.n in
    let eqs = equality_rows p in
    let ineqs = inequality_rows p in
    lsei n (length eqs) n (length ineqs) (matrix_of eqs) (sides_of eqs) (transposed n n p.factor) f (matrix_of ineqs) (sides_of ineqs)

unfoldable pub exact : Problem → List Float → Counted Step
exact p f = and_then (exact_solution p f) (λ s. done (exact_step p (length (equality_rows p)) s))

-- ---- the relaxed problem: E is the upper triangle of L', and in the corner the root of the weight of delta

-- RELAXATION_WEIGHT is 1e6, and its root 1000
abbrev pub weight : Float
weight = near 1000000 1

abbrev pub root_weight : Float
root_weight = near 1000 1

unfoldable pub relaxed_matrix : (n : ℕ) (corner : Float) (factor : List Float) → List Float
relaxed_matrix n corner factor = grid (n + 1) (n + 1) (λ i j. cond (leb i j && ltb j n) (entry n factor j i) (cond (eqb i n && eqb j n) corner +0))

-- an equality's multiplier, and a band's, is that of its first row less that of its second; `next` rows are passed
unfoldable pub paired : (kinds : List ℕ) (next : ℕ) (l : List Float) → List Float
paired [] next l = []
paired (k ∷ ks) next l =
    let pair = at l next ⊖ at l (next + 1) in
    by_kind k pair (at l next) pair ∷ paired ks (by_kind k (next + 2) (next + 1) (next + 2)) l

-- clamped to [0, 1]: NaN and -0 stay
unfoldable pub clamped : Float → Float
clamped v = cond (lt v +0) +0 (cond (lt one v) one v)

unfoldable pub relaxed_step : Problem → Solution → Step
relaxed_step p s = record { d = take p.n s.x; multipliers = paired p.kinds 0 s.multipliers; relaxation = clamped (at s.x p.n) }

abbrev pub relaxed_solution : Problem → List Float → Counted Solution
relaxed_solution p f =
    let rs = relaxed_rows p in
    lsi (p.n + 1) (p.n + 1) (length rs) (relaxed_matrix p.n root_weight p.factor) (f ++ (+0 ∷ [])) (matrix_of rs) (sides_of rs)

unfoldable pub relaxed : Problem → List Float → Counted Step
relaxed p f = and_then (relaxed_solution p f) (λ s. done (relaxed_step p s))

-- ---- the step

-- failure of any kind in the exact problem leads to the relaxed one, and the relaxed failure is returned
abbrev pub or_relaxed : Answer Step → (first second : Counted Step) → Counted Step
or_relaxed (done s) first second = first
or_relaxed (refused k) first second = after first second

unfoldable pub step : Problem → Counted Step
step p =
    let f = target p in
    let first = exact p f in
    or_relaxed first.answer first (relaxed p f)

-- ---- what it says of itself: how its two stages ended, and what both took

-- a stage that answered passed, and one that was not tried
abbrev pub stage_of : Answer Step → Outcome
stage_of (done s) = Ok tt
stage_of (refused r) = Err r

-- its number, 0 where it passed, and the place that comes with it
abbrev pub stage_number : Outcome → ℕ
stage_number o = outcome_number o

abbrev pub stage_place : Outcome → ℕ
stage_place (Ok tt) = nowhere
stage_place (Err r) = place_of r

abbrev pub reported : Answer Step → (first second : Counted Step) → Report
reported (done s) first second = record { exact = Ok tt; relaxed = Ok tt; rounds = first.rounds; factorings = first.factorings }
reported (refused r) first second = record {
  exact = Err r;
  relaxed = stage_of second.answer;
  rounds = first.rounds + second.rounds;
  factorings = first.factorings + second.factorings;
}

unfoldable pub report_of : Problem → Report
report_of p =
    let f = target p in
    let first = exact p f in
    reported first.answer first (relaxed p f)
