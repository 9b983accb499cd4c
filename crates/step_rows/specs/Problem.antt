-- The subproblem's data, and the rows that its constraints and bounds become (docs/RULES.md, "The step"; Kraft 1988). Definitions only.
use Rattle.std.specs.Prelude.{Option, None, Some, ℕ, zero, suc, ◌+◌, cond, List, [], ◌∷◌, ◌++◌, map, eqb, Float}
use Rattle.std.specs.Float.{nan, inf, fin}
use Rattle.std.specs.Float.Ieee.{lt, neg}
use Rattle.numbers.specs.Numbers.{+0, one, ◌⊖◌, at, nth, tab, row}
use Rattle.step_rows.specs.declared.Constraint.{Constraint}
use Rattle.step_rows.specs.declared.Constraint.TheVariants.{Equality, Floor, Band}

-- n variables, m constraints: the factor L of B = L L' (n by n), the gradient, the constraints' kinds, values c, widths (of a band alone) and Jacobian A (m by n), and the step's bounds
pub record Problem : Type 0 where
  pub n : ℕ
  pub m : ℕ
  pub factor : List Float
  pub gradient : List Float
  pub kinds : List ℕ
  pub values : List Float
  pub widths : List Float
  pub jacobian : List Float
  pub lower : List Float
  pub upper : List Float

-- the problem of these parts
abbrev pub problem_of : (n m : ℕ) (factor gradient : List Float) (kinds : List ℕ) (values widths jacobian lower upper : List Float) → Problem
problem_of n m factor gradient kinds values widths jacobian lower upper = record {
  n = n;
  m = m;
  factor = factor;
  gradient = gradient;
  kinds = kinds;
  values = values;
  widths = widths;
  jacobian = jacobian;
  lower = lower;
  upper = upper;
}

-- ---- constraints: an equality a'd + c = 0, a floor a'd + c >= 0, or a band that carries its width w, 0 <= a'd + c <= w

-- one of three, by a kind's byte: 0, 1, or 2
abbrev pub by_kind : {A : Type 0} → ℕ → (equality floor band : A) → A
by_kind zero e f b = e
by_kind (suc zero) e f b = f
by_kind (suc (suc k)) e f b = b

abbrev pub constraint_of : (kind : ℕ) (width : Float) → Constraint
constraint_of k w = by_kind k Equality Floor (Band w)

abbrev pub constraint_at : Problem → ℕ → Constraint
constraint_at p j = constraint_of (nth p.kinds j) (at p.widths j)

-- ---- rows, an equation or inequality each: coefficients and a right side

pub record Row : Type 0 where
  pub coefficients : List Float
  pub side : Float

abbrev pub row_of : List Float → Float → Row
row_of v b = record { coefficients = v; side = b }

-- the matrix and the right side of some rows
unfoldable pub matrix_of : List Row → List Float
matrix_of [] = []
matrix_of (r ∷ rs) = r.coefficients ++ matrix_of rs

unfoldable pub sides_of : List Row → List Float
sides_of [] = []
sides_of (r ∷ rs) = r.side ∷ sides_of rs

-- f 0, f 1, .., f (n - 1) one after the other
unfoldable pub each : {A : Type 0} → ℕ → (ℕ → List A) → List A
each zero f = []
each (suc n) f = f zero ++ each n (λ i. f (suc i))

-- v at place i of n, +0 elsewhere
unfoldable pub unit : ℕ → ℕ → Float → List Float
unit n i v = tab n (λ j. cond (eqb j i) v +0)

-- ---- bounds

-- a side is open, or closed at a number: any nonfinite bound is open
abbrev pub side_of : Float → Option Float
side_of nan = None
side_of (inf s) = None
side_of (fin s m e) = Some (fin s m e)

-- d_i >= lower_i, and -d_i >= -upper_i
abbrev pub lower_row : ℕ → ℕ → Option Float → List Row
lower_row cols i None = []
lower_row cols i (Some v) = row_of (unit cols i one) v ∷ []

abbrev pub upper_row : ℕ → ℕ → Option Float → List Row
upper_row cols i None = []
upper_row cols i (Some v) = row_of (unit cols i (neg one)) (neg v) ∷ []

-- per variable lower, upper
unfoldable pub bound_rows : ℕ → Problem → List Row
bound_rows cols p = each p.n (λ i. lower_row cols i (side_of (at p.lower i)) ++ upper_row cols i (side_of (at p.upper i)))

-- ---- constraints of the exact problem, in n columns

-- a'd = -c
abbrev pub equation_of : Constraint → List Float → Float → List Row
equation_of Equality a c = row_of a (neg c) ∷ []
equation_of Floor a c = []
equation_of (Band w) a c = []

-- a'd >= -c; a band makes two rows side by side, a'd >= -c and -a'd >= -(w - c)
abbrev pub floors_of : Constraint → List Float → Float → List Row
floors_of Equality a c = []
floors_of Floor a c = row_of a (neg c) ∷ []
floors_of (Band w) a c = row_of a (neg c) ∷ row_of (map neg a) (neg (w ⊖ c)) ∷ []

unfoldable pub equality_rows : Problem → List Row
equality_rows p = each p.m (λ j. equation_of (constraint_at p j) (row p.n j p.jacobian) (at p.values j))

unfoldable pub inequality_rows : Problem → List Row
inequality_rows p = each p.m (λ j. floors_of (constraint_at p j) (row p.n j p.jacobian) (at p.values j)) ++ bound_rows p.n p

-- ---- constraints of the relaxed problem, in (d, delta): n + 1 columns

-- an equality is two opposed rows
unfoldable pub opposed_rows : List Float → Float → List Row
opposed_rows a c = row_of (a ++ (neg c ∷ [])) (neg c) ∷ row_of (map neg a ++ (c ∷ [])) c ∷ []

-- an inequality of value c has -c in the last column only if c < 0
unfoldable pub loosened_row : List Float → Float → Row
loosened_row a c = row_of (a ++ (cond (lt c +0) (neg c) +0 ∷ [])) (neg c)

-- each row of a band is taken as an inequality, of value c and w - c
abbrev pub relaxed_of : Constraint → List Float → Float → List Row
relaxed_of Equality a c = opposed_rows a c
relaxed_of Floor a c = loosened_row a c ∷ []
relaxed_of (Band w) a c = loosened_row a c ∷ loosened_row (map neg a) (w ⊖ c) ∷ []

-- delta >= 0 and -delta >= -1, delta being variable n
unfoldable pub delta_rows : ℕ → List Row
delta_rows n = row_of (unit (n + 1) n one) +0 ∷ row_of (unit (n + 1) n (neg one)) (neg one) ∷ []

-- constraints, then per variable lower, upper, and last those of delta
unfoldable pub relaxed_rows : Problem → List Row
relaxed_rows p =
    each p.m (λ j. relaxed_of (constraint_at p j) (row p.n j p.jacobian) (at p.values j))
    ++ (bound_rows (p.n + 1) p ++ delta_rows p.n)
