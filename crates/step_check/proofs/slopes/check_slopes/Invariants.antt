-- `check_slopes`: after i turns i variables have passed.
use mathlib.Core.Path.{◌≡◌}
use mathlib.Core.List.{[], ◌∷◌}
use Prim.Native.Nat.{◌-◌, ◌≤◌}
use Rattle.numbers.specs.Numbers.{+0}
use Rattle.step_rows.specs.Problem.{each}
use Rattle.step_check.specs.declared.Test.TheVariants.{Stationarity}
use Rattle.step_check.specs.declared.Part.TheVariants.{Variable}
use Rattle.step_check.specs.Check.{slope, margin_of, yes, first_failed}
use Rattle.step_check.proofs.slopes.check_slopes.Given as goal

abbrev pub invariant-loop-i : goal.invariant-loop-i
invariant-loop-i l = (l.i ≤ l.s.problem.n) × (first_failed Stationarity l.tolerance (each l.i (λ i'. margin_of Variable i' +0 (slope l.s.problem.n l.s.problem.m l.s.problem.factor.now l.s.problem.gradient.now l.s.problem.jacobian.now l.s.problem.lower.now l.s.problem.upper.now l.s.d.now l.s.multipliers.now l.s.lowers.now l.s.uppers.now i') ∷ [])) ≡ yes)

abbrev pub decreases-loop-i : goal.decreases-loop-i
decreases-loop-i l = l.s.problem.n - l.i
