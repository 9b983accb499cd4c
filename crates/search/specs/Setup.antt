-- The search's problem, what it asks and is told, and how it ends (docs/RULES.md, "The search"). Definitions only.
use Rattle.std.specs.Prelude.{ℕ, Bool, true, false, ◌&&◌, List, [], ◌∷◌, leb, Float}
use Rattle.std.specs.Float.{nan, inf, fin}
use Rattle.search.specs.Places.{MOST_VALUES, SCHEME_CENTRAL}

-- where slopes come from: told, or worked out from differences, forward or central
pub data Scheme : Type 0 where
  told : Scheme
  forward : Scheme
  central : Scheme

-- n variables, m constraints with their kinds (0 an equality, 1 a floor), bounds, and the tolerance of convergence
pub record Setup : Type 0 where
  pub n : ℕ
  pub m : ℕ
  pub kinds : List ℕ
  pub lower : List Float
  pub upper : List Float
  pub ftol : Float
  pub scheme : Scheme

-- how many objective values a run may cost, and the number of a scheme
abbrev pub is_budget : ℕ → Bool
is_budget b = leb b MOST_VALUES

abbrev pub is_scheme : ℕ → Bool
is_scheme k = leb k SCHEME_CENTRAL

-- every kind is 0 or 1: a search has no bands
unfoldable pub are_kinds : List ℕ → Bool
are_kinds [] = true
are_kinds (k ∷ ks) = leb k 1 && are_kinds ks

-- Functions are numbered: 0 is the objective, 1 + j constraint j. So values are 1 + m numbers, and slopes a matrix of 1 + m rows of n, the gradient first.
-- a point, and what was told of it
pub record Point : Type 0 where
  pub x : List Float
  pub values : List Float

-- what is asked: all values at a point, all slopes there, or one function's value at a moved point
pub data Question : Type 0 where
  values : List Float → Question
  slopes : List Float → Question
  single : ℕ → List Float → Question

-- how a run ends: within the tolerance; no step, or one that relaxes all; an objective value is due and none is left; a nonfinite number was met
pub data Ending : Type 0 where
  converged : Ending
  infeasible : Ending
  exhausted : Ending
  nonfinite : Ending

-- what is reported at the end: the last accepted point, and the multipliers of the last step, +0 before the first
pub record Report : Type 0 where
  pub point : Point
  pub multipliers : List Float

-- a number is finite, and all numbers of a list are
abbrev pub is_finite : Float → Bool
is_finite nan = false
is_finite (inf s) = false
is_finite (fin s m e) = true

unfoldable pub are_finite : List Float → Bool
are_finite [] = true
are_finite (v ∷ vs) = is_finite v && are_finite vs
