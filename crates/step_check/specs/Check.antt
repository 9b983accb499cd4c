-- Is a step plausible? Five tests on a step that may come from anywhere (docs/RULES.md, "The check"). Definitions only.
use Rattle.std.specs.Prelude.{ℕ, ◌+◌, ◌-◌, Bool, cond, ◌&&◌, List, [], ◌∷◌, ◌++◌, Option, None, Some, Result, Ok, Err, ⊤, Float}
use Rattle.std.specs.Float.Ieee.{le, neg}
use Rattle.numbers.specs.Numbers.{+0, ◌⊕◌, ◌⊖◌, ◌⊗◌, Σ, at, entry}
use Rattle.step_rows.specs.Problem.{Problem, constraint_at, side_of, each}
use Rattle.step_rows.specs.declared.Constraint.{Constraint}
use Rattle.step_rows.specs.declared.Constraint.TheVariants.{Equality, Floor, Band}
use Rattle.step_check.specs.declared.Test.{Test}
use Rattle.step_check.specs.declared.Test.TheVariants.{Stationarity, Residual, Violation, Sign, Product}
use Rattle.step_check.specs.declared.Part.{Part}
use Rattle.step_check.specs.declared.Part.TheVariants as part
use Rattle.step_check.specs.declared.Failure.{Failure}

-- what is pasted: a step, and multipliers for the constraints and for the lower and upper side of each variable
pub record Pasted : Type 0 where
  pub d : List Float
  pub multipliers : List Float
  pub lowers : List Float
  pub uppers : List Float

abbrev pub pasted_of : (d multipliers lowers uppers : List Float) → Pasted
pasted_of d multipliers lowers uppers = record { d = d; multipliers = multipliers; lowers = lowers; uppers = uppers }

-- ---- the slope of a variable

-- entry k of L'd, and entry i of L times that: of the factor the lower triangle only
unfoldable pub halfway : (n : ℕ) (factor d : List Float) → ℕ → Float
halfway n factor d k = Σ (n - k) (λ t. entry n factor (k + t) k ⊗ at d (k + t))

unfoldable pub curved : (n : ℕ) (factor d : List Float) → ℕ → Float
curved n factor d i = Σ (i + 1) (λ k. entry n factor i k ⊗ halfway n factor d k)

-- the sum of the constraints' terms
unfoldable pub terms : (n m : ℕ) (jacobian multipliers : List Float) → ℕ → Float
terms n m jacobian multipliers i = Σ m (λ j. entry n jacobian j i ⊗ at multipliers j)

-- minus the lower, plus the upper multiplier: an open side takes no part
abbrev pub less_lower : Option Float → (multiplier v : Float) → Float
less_lower None l v = v
less_lower (Some bound) l v = v ⊖ l

abbrev pub plus_upper : Option Float → (multiplier v : Float) → Float
plus_upper None u v = v
plus_upper (Some bound) u v = v ⊕ u

-- L L'd, plus gradient, minus the constraints' terms, minus lower, plus upper multiplier
unfoldable pub slope : (n m : ℕ) (factor gradient jacobian lower upper d multipliers lowers uppers : List Float) → ℕ → Float
slope n m factor gradient jacobian lower upper d multipliers lowers uppers i =
    plus_upper (side_of (at upper i)) (at uppers i)
    (less_lower (side_of (at lower i)) (at lowers i)
    (curved n factor d i ⊕ at gradient i ⊖ terms n m jacobian multipliers i))

-- ---- rows: a name, which is a part with an index, a multiplier and a margin

pub record Margin : Type 0 where
  pub part : Part
  pub index : ℕ
  pub multiplier : Float
  pub margin : Float

abbrev pub margin_of : Part → ℕ → (multiplier margin : Float) → Margin
margin_of p i l v = record { part = p; index = i; multiplier = l; margin = v }

-- a'd + c; and of a band's ceiling, by its row, (-a)'d + (w - c)
unfoldable pub value_at : (n : ℕ) (jacobian values d : List Float) → ℕ → Float
value_at n jacobian values d j = Σ n (λ k. entry n jacobian j k ⊗ at d k) ⊕ at values j

unfoldable pub ceiling_at : (n : ℕ) (jacobian values d : List Float) (width : Float) → ℕ → Float
ceiling_at n jacobian values d w j = Σ n (λ k. neg (entry n jacobian j k) ⊗ at d k) ⊕ (w ⊖ at values j)

-- of a band's multiplier the floor has the positive part, the ceiling the negative part; a NaN gives both a NaN
unfoldable pub positive : Float → Float
positive l = cond (le l +0) +0 l

unfoldable pub negative : Float → Float
negative l = cond (le +0 l) +0 (neg l)

-- constraint j as an equality, and as a floor or a band
abbrev pub equality_row : Constraint → (n : ℕ) (jacobian values d multipliers : List Float) → ℕ → List Margin
equality_row Equality n a c d l j = margin_of part.Constraint j (at l j) (value_at n a c d j) ∷ []
equality_row Floor n a c d l j = []
equality_row (Band w) n a c d l j = []

abbrev pub floor_rows : Constraint → (n : ℕ) (jacobian values d multipliers : List Float) → ℕ → List Margin
floor_rows Equality n a c d l j = []
floor_rows Floor n a c d l j = margin_of part.Constraint j (at l j) (value_at n a c d j) ∷ []
floor_rows (Band w) n a c d l j = margin_of part.Constraint j (positive (at l j)) (value_at n a c d j) ∷ margin_of part.Ceiling j (negative (at l j)) (ceiling_at n a c d w j) ∷ []

-- d - lower, and upper - d
abbrev pub lower_row : Option Float → (d lowers : List Float) → ℕ → List Margin
lower_row None d l i = []
lower_row (Some bound) d l i = margin_of part.Lower i (at l i) (at d i ⊖ bound) ∷ []

abbrev pub upper_row : Option Float → (d uppers : List Float) → ℕ → List Margin
upper_row None d u i = []
upper_row (Some bound) d u i = margin_of part.Upper i (at u i) (bound ⊖ at d i) ∷ []

-- ---- the rows of the tests, each in its order

-- a variable's slope stands as its margin; no test reads a multiplier there
unfoldable pub slopes : Problem → Pasted → List Margin
slopes p s =
    each p.n (λ i. margin_of part.Variable i +0 (slope p.n p.m p.factor p.gradient p.jacobian p.lower p.upper s.d s.multipliers s.lowers s.uppers i) ∷ [])

unfoldable pub equalities : Problem → Pasted → List Margin
equalities p s = each p.m (λ j. equality_row (constraint_at p j) p.n p.jacobian p.values s.d s.multipliers j)

-- constraints, a band's floor before its ceiling; then per variable lower, upper
unfoldable pub inequalities : Problem → Pasted → List Margin
inequalities p s =
    each p.m (λ j. floor_rows (constraint_at p j) p.n p.jacobian p.values s.d s.multipliers j)
    ++ each p.n (λ i. lower_row (side_of (at p.lower i)) s.d s.lowers i ++ upper_row (side_of (at p.upper i)) s.d s.uppers i)

abbrev pub rows_of : Test → Problem → Pasted → List Margin
rows_of Stationarity p s = slopes p s
rows_of Residual p s = equalities p s
rows_of Violation p s = inequalities p s
rows_of Sign p s = inequalities p s
rows_of Product p s = inequalities p s

-- ---- the five tests of a row

-- by magnitude; the tolerance admits its own value, and a NaN fails
abbrev pub within : (tolerance v : Float) → Bool
within tol v = le v tol && le (neg v) tol

abbrev pub holds : Test → (tolerance multiplier margin : Float) → Bool
holds Stationarity tol l v = within tol v
holds Residual tol l v = within tol v
holds Violation tol l v = le (neg tol) v
holds Sign tol l v = le +0 l
holds Product tol l v = within tol (l ⊗ v)

-- ---- the verdict

-- yes, or the first failed test with its row
abbrev pub Verdict : Type 0
Verdict = Result ⊤ Failure

abbrev pub yes : Verdict
yes = Ok tt

abbrev pub fails : Test → Part → (index : ℕ) → Verdict
fails t p i = Err (record { test = t; part = p; index = i })

-- where one says yes, what the next says
infixr 20 ◌or_else◌
abbrev pub ◌or_else◌ : Verdict → Verdict → Verdict
Ok tt or_else v = v
Err f or_else v = Err f

-- the first of some rows that fails a test
unfoldable pub first_failed : Test → (tolerance : Float) → List Margin → Verdict
first_failed t tol [] = yes
first_failed t tol (r ∷ rs) = cond (holds t tol r.multiplier r.margin) (first_failed t tol rs) (fails t r.part r.index)

unfoldable pub verdict : Problem → Pasted → (tolerance : Float) → Verdict
verdict p s tol =
    first_failed Stationarity tol (slopes p s)
    or_else first_failed Residual tol (equalities p s)
    or_else first_failed Violation tol (inequalities p s)
    or_else first_failed Sign tol (inequalities p s)
    or_else first_failed Product tol (inequalities p s)

-- ---- its numbers

-- the tests are numbered in their order
abbrev pub test_number : Test → ℕ
test_number Stationarity = 1
test_number Residual = 2
test_number Violation = 3
test_number Sign = 4
test_number Product = 5

abbrev pub part_number : Part → ℕ
part_number part.Variable = 0
part_number part.Constraint = 1
part_number part.Ceiling = 2
part_number part.Lower = 3
part_number part.Upper = 4

-- a verdict in three numbers, all 0 with yes
abbrev pub test_told : Verdict → ℕ
test_told (Ok tt) = 0
test_told (Err f) = test_number f.test

abbrev pub part_told : Verdict → ℕ
part_told (Ok tt) = 0
part_told (Err f) = part_number f.part

abbrev pub index_told : Verdict → ℕ
index_told (Ok tt) = 0
index_told (Err f) = f.index
