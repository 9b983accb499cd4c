-- What a turn of the search computes between its questions (docs/RULES.md, "The search"; Powell 1978). Definitions only.
use Rattle.std.specs.Prelude.{ℕ, zero, suc, ◌+◌, ◌*◌, ◌^◌, Bool, true, false, cond, ◌&&◌, List, eqb, replicate, Float}
use Rattle.std.specs.Float.{nan}
use Rattle.std.specs.Float.Ieee.{lt, le, eq, neg, is_nan}
use Rattle.numbers.specs.Numbers.{+0, near, one, ◌⊕◌, ◌⊖◌, ◌⊗◌, ◌⊘◌, Σ, at, nth, tab, dot, entry}
use Rattle.workspace.specs.Tables.{Answer, done, refused}
use Rattle.hessian.specs.Hessian.{identity, cholesky, update}
use Rattle.step_rows.specs.Problem.{Problem}
use Rattle.step.specs.Step.{Step, step}
use Rattle.search.specs.Places.{BACKTRACKS}
use Rattle.search.specs.Setup.{Setup, Point, Report, Ending, converged, infeasible, is_finite}

-- ---- numbers

-- |x|: of both zeros +0
unfoldable pub magnitude : Float → Float
magnitude x = cond (lt x +0) (neg x) (cond (eq x +0) +0 x)

-- the larger of two, where a NaN gives way to a number
unfoldable pub larger : Float → Float → Float
larger x y = cond (is_nan x) y (cond (lt x y) y x)

-- x, but +0 where it is not below zero
unfoldable pub negative : Float → Float
negative x = cond (lt x +0) x +0

-- x clipped to [low, high]
unfoldable pub clip : (low high x : Float) → Float
clip low high x = cond (lt x low) low (cond (lt high x) high x)

abbrev pub half : Float
half = near 1 2

abbrev pub tenth : Float
tenth = near 1 10

abbrev pub two : Float
two = near 2 1

-- 1 - 1e-8: a step that relaxes this much has reduced no violation
abbrev pub full_relaxation : Float
full_relaxation = one ⊖ near 1 (10 ^ 8)

-- the trials after the first one of a line
abbrev pub backtracks : ℕ
backtracks = BACKTRACKS

-- ---- points and what is kept of them

-- x clipped into the bounds
unfoldable pub clipped : Setup → List Float → List Float
clipped p x = tab p.n (λ i. clip (at p.lower i) (at p.upper i) (at x i))

abbrev pub point_of : (x values : List Float) → Point
point_of x v = record { x = x; values = v }

-- a point of which nothing was told yet: its values are NaN
abbrev pub unknown : Setup → (x : List Float) → Point
unknown p x = point_of x (replicate (suc p.m) nan)

-- the accepted point with its slopes, the approximation B and whether it is fresh, the penalties, and the multipliers of the last step
pub record Iterate : Type 0 where
  pub point : Point
  pub slopes : List Float
  pub b : List Float
  pub fresh : Bool
  pub penalty : List Float
  pub multipliers : List Float

abbrev pub report_of : Iterate → Report
report_of s = record { point = s.point; multipliers = s.multipliers }

-- before any step, the multipliers and the penalties are +0
abbrev pub blank : Setup → Point → Report
blank p q = record { point = q; multipliers = replicate p.m +0 }

abbrev pub first : Setup → Point → (slopes : List Float) → Iterate
first p q g = record { point = q; slopes = g; b = identity p.n; fresh = true; penalty = replicate p.m +0; multipliers = replicate p.m +0 }

-- B is the identity again
abbrev pub reset : Setup → Iterate → Iterate
reset p s = record { point = s.point; slopes = s.slopes; b = identity p.n; fresh = true; penalty = s.penalty; multipliers = s.multipliers }

-- ---- violations and merit

-- |c| of an equality, the negative part of an inequality; zero is +0
abbrev pub violation : (is_equality : Bool) → Float → Float
violation true c = magnitude c
violation false c = cond (lt c +0) (neg c) +0

unfoldable pub violations : Setup → (values : List Float) → List Float
violations p v = tab p.m (λ j. violation (eqb (nth p.kinds j) 0) (at v (suc j)))

-- the largest of the first j, from +0
unfoldable pub largest : ℕ → List Float → Float
largest zero v = +0
largest (suc j) v = larger (largest j v) (at v j)

unfoldable pub max_violation : Setup → (values : List Float) → Float
max_violation p v = largest p.m (violations p v)

-- f + sum of penalty_j violation_j
unfoldable pub merit : Setup → (penalty values : List Float) → Float
merit p s v = at v 0 ⊕ dot p.m s (violations p v)

-- ---- the step of a turn

-- the step's problem at s, with the factor l of B: no constraint is a band, so the widths are not read (Claims: NoWidths)
unfoldable pub model_of : Setup → (l : List Float) → Iterate → Problem
model_of p l s =
    let n = p.n in
    record {
      n = n;
      m = p.m;
      factor = l;
      gradient = tab n (λ i. at s.slopes i);
      kinds = p.kinds;
      values = tab p.m (λ j. at s.point.values (suc j));
      widths = replicate p.m +0;
      jacobian = tab (p.m * n) (λ k. at s.slopes (n + k));
      lower = tab n (λ i. at p.lower i ⊖ at s.point.x i);
      upper = tab n (λ i. at p.upper i ⊖ at s.point.x i);
    }

-- a line to search along: the step d, and the merit and its slope where it begins
pub record Line : Type 0 where
  pub d : List Float
  pub merit : Float
  pub slope : Float

-- a turn begins: it ends the run, or has a line
pub data Opened : Type 0 where
  stop : Ending → Iterate → Opened
  go : Iterate → Line → Opened

-- sum of |lambda_j c_j|
unfoldable pub complementarity : ℕ → (multipliers values : List Float) → Float
complementarity m l v = Σ m (λ j. magnitude (at l j ⊗ at v (suc j)))

-- |lambda| or its mean with the old penalty, the larger
unfoldable pub penalties : ℕ → (penalty multipliers : List Float) → List Float
penalties m s l = tab m (λ j. larger (magnitude (at l j)) ((at s j ⊕ magnitude (at l j)) ⊘ two))

abbrev pub with_step : Iterate → (penalty multipliers : List Float) → Iterate
with_step s r l = record { point = s.point; slopes = s.slopes; b = s.b; fresh = s.fresh; penalty = r; multipliers = l }

-- the line of a step
unfoldable pub line_of : Setup → Iterate → Step → Line
line_of p s t =
    record {
      d = tab p.n (λ i. at t.d i);
      merit = merit p s.penalty s.point.values;
      slope = dot p.n s.slopes t.d ⊖ (one ⊖ t.relaxation) ⊗ dot p.m s.penalty (violations p s.point.values);
    }

-- the predicted change is within the tolerance, and so is the violation
unfoldable pub is_still : Setup → Iterate → Step → Bool
is_still p s t =
    lt (magnitude (dot p.n s.slopes t.d) ⊕ complementarity p.m t.multipliers s.point.values) p.ftol
    && lt (max_violation p s.point.values) p.ftol

unfoldable pub stepped : Setup → Iterate → Answer Step → Opened
stepped p s (refused k) = stop infeasible s
stepped p s (done t) =
    let l = tab p.m (λ j. at t.multipliers j) in
    cond (le full_relaxation t.relaxation) (stop infeasible s)
    (cond (is_still p s t) (stop converged (with_step s s.penalty l))
    (let u = with_step s (penalties p.m s.penalty l) l in go u (line_of p u t)))

-- A B that has no factor is replaced by the identity, which is its own.
unfoldable pub factored : Setup → Iterate → Answer (List Float) → Opened
factored p s (done l) = stepped p s (step (model_of p l s)).answer
factored p s (refused k) = let u = reset p s in stepped p u (step (model_of p (identity p.n) u)).answer

unfoldable pub opened : Setup → Iterate → Opened
opened p s = factored p s (cholesky p.n s.b)

-- ---- trials

-- the point at alpha on the line, clipped into the bounds
unfoldable pub along : Setup → Iterate → Line → (alpha : Float) → List Float
along p s line α = tab p.n (λ i. clip (at p.lower i) (at p.upper i) (at s.point.x i ⊕ α ⊗ at line.d i))

-- the merit has decreased by a tenth of what its slope predicts
unfoldable pub is_enough : Line → (alpha merit : Float) → Bool
is_enough line α φ = le φ (line.merit ⊕ tenth ⊗ α ⊗ negative line.slope)

-- the next alpha: where the parabola is least, if that is a number, within a tenth and a half of alpha
unfoldable pub shorter : Line → (alpha merit : Float) → Float
shorter line α φ =
    let curvature = (φ ⊖ line.merit ⊖ line.slope ⊗ α) ⊘ (α ⊗ α) in
    let least = neg line.slope ⊘ (two ⊗ curvature) in
    cond (is_finite least) (clip (tenth ⊗ α) (half ⊗ α) least) (half ⊗ α)

-- ---- the next iterate

-- entry i of the gradient of the Lagrangian after j of its terms, and that gradient, g - A' lambda
unfoldable pub lagrangian_at : ℕ → (slopes multipliers : List Float) → (i j : ℕ) → Float
lagrangian_at n g l i zero = at g i
lagrangian_at n g l i (suc j) = lagrangian_at n g l i j ⊖ at l j ⊗ entry n g (suc j) i

unfoldable pub lagrangian : Setup → (slopes multipliers : List Float) → List Float
lagrangian p g l = tab p.n (λ i. lagrangian_at p.n g l i p.m)

-- s moves to the point q with its slopes g, and B is updated
unfoldable pub moved : Setup → Iterate → Point → (slopes : List Float) → Iterate
moved p s q g =
    let n = p.n in
    let l = s.multipliers in
    let new = lagrangian p g l in
    let old = lagrangian p s.slopes l in
    record {
      point = q;
      slopes = g;
      b = update n s.b (tab n (λ i. at q.x i ⊖ at s.point.x i)) (tab n (λ i. at new i ⊖ at old i));
      fresh = false;
      penalty = s.penalty;
      multipliers = l;
    }

-- the objective moved by less than the tolerance, and the violation is within it
unfoldable pub is_settled : Setup → Iterate → Point → Bool
is_settled p s q = lt (magnitude (at q.values 0 ⊖ at s.point.values 0)) p.ftol && lt (max_violation p q.values) p.ftol

-- ---- differences

-- 2 ^ -26, the root of epsilon
abbrev pub root_epsilon : Float
root_epsilon = near 1 (2 ^ 26)

-- the move of a coordinate, and the coordinate moved up and down
unfoldable pub move_of : Float → Float
move_of x = root_epsilon ⊗ larger (magnitude x) one

unfoldable pub raise : Float → Float
raise x = x ⊕ move_of x

unfoldable pub lower : Float → Float
lower x = x ⊖ move_of x

-- the difference of values over the distance of the moved coordinates
abbrev pub quotient : (upper lower high low : Float) → Float
quotient v u high low = (v ⊖ u) ⊘ (high ⊖ low)
