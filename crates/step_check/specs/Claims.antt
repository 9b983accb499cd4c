-- The check says yes exactly when the five tests hold, and else names the first that fails, with its row. Definitions only.
use Rattle.std.specs.Prelude.{ℕ, ◌<◌, ◌≡◌, true, false, List, [], ◌∷◌, ◌++◌, ◌↔◌, Float}
use Rattle.std.specs.Float.Ieee.{le, neg}
use Rattle.numbers.specs.Numbers.{+0, ◌⊗◌, SameLower}
use Rattle.step_rows.specs.Problem.{Problem, problem_of}
use Rattle.step_check.specs.declared.Test.{Test}
use Rattle.step_check.specs.declared.Part.{Part}
use Rattle.step_check.specs.Check.{Pasted, slope, Margin, equalities, inequalities, rows_of, within, holds, yes, fails, verdict, test_number}

-- for every row of a list
abbrev pub All : (Margin → Type 0) → List Margin → Type 0
All P [] = Unit
All P (r ∷ rs) = P r × All P rs

-- ---- the five, as predicates over rows

-- for every variable: the slope is within the tolerance
abbrev pub Stationary : Problem → Pasted → (tolerance : Float) → Type 0
Stationary p s tol = (i : ℕ) → i < p.n → within tol (slope p.n p.m p.factor p.gradient p.jacobian p.lower p.upper s.d s.multipliers s.lowers s.uppers i) ≡ true

-- for every equality: its residual is within the tolerance
abbrev pub ResidualsSmall : Problem → Pasted → (tolerance : Float) → Type 0
ResidualsSmall p s tol = All (λ r. within tol r.margin ≡ true) (equalities p s)

-- for every inequality and closed side: its margin is not below minus the tolerance
abbrev pub NoneViolated : Problem → Pasted → (tolerance : Float) → Type 0
NoneViolated p s tol = All (λ r. le (neg tol) r.margin ≡ true) (inequalities p s)

-- .. its multiplier is not below zero
abbrev pub SignsRight : Problem → Pasted → Type 0
SignsRight p s = All (λ r. le +0 r.multiplier ≡ true) (inequalities p s)

-- .. the product of multiplier and margin is within the tolerance
abbrev pub ProductsSmall : Problem → Pasted → (tolerance : Float) → Type 0
ProductsSmall p s tol = All (λ r. within tol (r.multiplier ⊗ r.margin) ≡ true) (inequalities p s)

pub record Five (p : Problem) (s : Pasted) (tol : Float) : Type 0 where
  pub stationary : Stationary p s tol
  pub residuals : ResidualsSmall p s tol
  pub violations : NoneViolated p s tol
  pub signs : SignsRight p s
  pub products : ProductsSmall p s tol

abbrev pub YesIsFive : Type 0
YesIsFive = (p : Problem) (s : Pasted) (tol : Float) → (verdict p s tol ≡ yes) ↔ Five p s tol

-- ---- else the first failed

abbrev pub Holds : Test → (tolerance : Float) → Margin → Type 0
Holds t tol r = holds t tol r.multiplier r.margin ≡ true

-- test t is the first that fails: the tests before it hold on all their rows, and of its own rows all before the named one
pub record FirstFailed (p : Problem) (s : Pasted) (tol : Float) (t : Test) (name : Part) (index : ℕ) : Type 0 where
  pub tests_before : (u : Test) → test_number u < test_number t → All (Holds u tol) (rows_of u p s)
  pub before : List Margin
  pub failed : Margin
  pub others : List Margin
  pub its_rows : rows_of t p s ≡ before ++ (failed ∷ others)
  pub rows_before : All (Holds t tol) before
  pub fails_there : holds t tol failed.multiplier failed.margin ≡ false
  pub its_part : failed.part ≡ name
  pub its_index : failed.index ≡ index

abbrev pub NamesFirst : Type 0
NamesFirst = (p : Problem) (s : Pasted) (tol : Float) (t : Test) (name : Part) (index : ℕ) → verdict p s tol ≡ fails t name index → FirstFailed p s tol t name index

-- ---- what it reads of the factor

-- the lower triangle only: another factor with the same one gets the same verdict
abbrev pub with_factor : Problem → List Float → Problem
with_factor p l = problem_of p.n p.m l p.gradient p.kinds p.values p.widths p.jacobian p.lower p.upper

abbrev pub ReadsLower : Type 0
ReadsLower = (p : Problem) (l : List Float) (s : Pasted) (tol : Float) → SameLower p.n p.factor l → verdict (with_factor p l) s tol ≡ verdict p s tol
