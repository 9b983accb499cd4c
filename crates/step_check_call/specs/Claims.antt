-- What is shown of calls of the check: a verdict is yes exactly when the five tests hold, and else names the first that fails; NaN fails, open sides take no part; and the promise allows one answer only. Definitions only.
use Rattle.std.specs.Prelude.{◌≡◌, true, List, ◌↔◌, ℕ, ◌<◌, length, Float, Option, None, Some, Ok}
use Rattle.std.specs.Float.{nan}
use Rattle.std.specs.Float.Ieee.{le, neg}
use Rattle.numbers.specs.Numbers.{+0, ◌⊖◌, ◌⊗◌, at}
use Rattle.workspace.specs.Tables.{Answer}
use Rattle.step_rows.specs.Problem.{Problem, constraint_at, side_of}
use Rattle.step_rows.specs.declared.Constraint.{Constraint}
use Rattle.step_rows.specs.declared.Constraint.TheVariants.{Equality, Floor, Band}
use Rattle.step_check.specs.Check.{Pasted, value_at, ceiling_at, positive, negative, within, Verdict, yes, fails}
use Rattle.step_check.specs.Claims.{Stationary, FirstFailed}
use Rattle.step_check.specs.declared.Test.{Test}
use Rattle.step_check.specs.declared.Part.{Part}
use Rattle.step_check_call.specs.Promise.{check_call, Outcome, Checks}

-- ---- yes is five, by constraint and side

-- the three tests of an inequality, with its multiplier and its margin
pub record Passes (tol multiplier margin : Float) : Type 0 where
  pub not_violated : le (neg tol) margin ≡ true
  pub sign : le +0 multiplier ≡ true
  pub product : within tol (multiplier ⊗ margin) ≡ true

-- an equality's residual; a floor; a band's floor with the positive part of its multiplier, and its ceiling with the negative part
abbrev pub ConstraintPasses : Constraint → Problem → Pasted → (tolerance : Float) → ℕ → Type 0
ConstraintPasses Equality p s tol j = within tol (value_at p.n p.jacobian p.values s.d j) ≡ true
ConstraintPasses Floor p s tol j = Passes tol (at s.multipliers j) (value_at p.n p.jacobian p.values s.d j)
ConstraintPasses (Band w) p s tol j =
    Passes tol (positive (at s.multipliers j)) (value_at p.n p.jacobian p.values s.d j)
    × Passes tol (negative (at s.multipliers j)) (ceiling_at p.n p.jacobian p.values s.d w j)

-- an open side passes, whatever its multiplier
abbrev pub LowerPasses : Option Float → (tolerance multiplier d : Float) → Type 0
LowerPasses None tol l d = Unit
LowerPasses (Some bound) tol l d = Passes tol l (d ⊖ bound)

abbrev pub UpperPasses : Option Float → (tolerance multiplier d : Float) → Type 0
UpperPasses None tol l d = Unit
UpperPasses (Some bound) tol l d = Passes tol l (bound ⊖ d)

pub record Plausible (p : Problem) (s : Pasted) (tol : Float) : Type 0 where
  pub stationary : Stationary p s tol
  pub constraints : (j : ℕ) → j < p.m → ConstraintPasses (constraint_at p j) p s tol j
  pub lowers : (i : ℕ) → i < p.n → LowerPasses (side_of (at p.lower i)) tol (at s.lowers i) (at s.d i)
  pub uppers : (i : ℕ) → i < p.n → UpperPasses (side_of (at p.upper i)) tol (at s.uppers i) (at s.d i)

-- where a call is done, it says yes if and only if every variable, constraint and side passes
abbrev pub CallYesIsFive : Type 0
CallYesIsFive = (p : Problem) (s : Pasted) (tol : Float) (v : Verdict) (w w' : List Float) (iw iw' : List ℕ) → Checks (check_call p s tol w iw) (Ok v) w w' iw iw' → (v ≡ yes) ↔ Plausible p s tol

-- ---- NaN, and open sides

-- with a NaN in the step, in a multiplier, or in that of a closed side no call says yes
pub record NoneNan (p : Problem) (s : Pasted) : Type 0 where
  pub steps : (i : ℕ) → i < p.n → at s.d i ≡ nan → ⊥
  pub multipliers : (j : ℕ) → j < p.m → at s.multipliers j ≡ nan → ⊥
  pub lowers : (i : ℕ) → i < p.n → (bound : Float) → side_of (at p.lower i) ≡ Some bound → at s.lowers i ≡ nan → ⊥
  pub uppers : (i : ℕ) → i < p.n → (bound : Float) → side_of (at p.upper i) ≡ Some bound → at s.uppers i ≡ nan → ⊥

abbrev pub NanFails : Type 0
NanFails = (p : Problem) (s : Pasted) (tol : Float) (w w' : List Float) (iw iw' : List ℕ) → Checks (check_call p s tol w iw) (Ok yes) w w' iw iw' → NoneNan p s

-- the same step with the same multipliers, but for those of open sides
pub record SameClosed (p : Problem) (s s' : Pasted) : Type 0 where
  pub steps : s.d ≡ s'.d
  pub multipliers : s.multipliers ≡ s'.multipliers
  pub as_many_lowers : length s.lowers ≡ length s'.lowers
  pub as_many_uppers : length s.uppers ≡ length s'.uppers
  pub lowers : (i : ℕ) → i < p.n → (bound : Float) → side_of (at p.lower i) ≡ Some bound → at s.lowers i ≡ at s'.lowers i
  pub uppers : (i : ℕ) → i < p.n → (bound : Float) → side_of (at p.upper i) ≡ Some bound → at s.uppers i ≡ at s'.uppers i

-- gets the same outcome
abbrev pub OpenIgnored : Type 0
OpenIgnored = (p : Problem) (s s' : Pasted) (tol : Float) (o o' : Outcome) (w w' w'' : List Float) (iw iw' iw'' : List ℕ) → SameClosed p s s'
    → Checks (check_call p s tol w iw) o w w' iw iw' → Checks (check_call p s' tol w iw) o' w w'' iw iw'' → o ≡ o'

-- ---- else the first failed

-- else it names the first failed test with its row
abbrev pub CallNamesFirst : Type 0
CallNamesFirst = (p : Problem) (s : Pasted) (tol : Float) (t : Test) (name : Part) (index : ℕ) (w w' : List Float) (iw iw' : List ℕ) → Checks (check_call p s tol w iw) (Ok (fails t name index)) w w' iw iw'
    → FirstFailed p s tol t name index

-- ---- one answer only

-- whatever the answer c, the outcome and all that is left are fixed by what was there before
abbrev pub OneAnswer : Type 0
OneAnswer = (c : Answer Verdict) (o p : Outcome) (w w' w'' : List Float) (iw iw' iw'' : List ℕ) → Checks c o w w' iw iw' → Checks c p w w'' iw iw'' → (o ≡ p) × (w' ≡ w'') × (iw' ≡ iw'')
