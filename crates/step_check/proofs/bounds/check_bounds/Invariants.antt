-- `check_bounds`: after i turns i variables have passed.
use mathlib.Core.Path.{◌≡◌}
use mathlib.Core.List.{◌++◌}
use Prim.Native.Nat.{◌-◌, ◌≤◌}
use Rattle.numbers.specs.Numbers.{at}
use Rattle.step_rows.specs.Problem.{each, side_of}
use Rattle.step_check.specs.Check.{lower_row, upper_row, yes, first_failed}
use Rattle.step_check.proofs.bounds.check_bounds.Given as goal

abbrev pub invariant-loop-i : goal.invariant-loop-i
invariant-loop-i l = (l.i ≤ l.s.problem.n) × (first_failed l.test l.tolerance (each l.i (λ i'. lower_row (side_of (at l.s.problem.lower.now i')) l.s.d.now l.s.lowers.now i' ++ upper_row (side_of (at l.s.problem.upper.now i')) l.s.d.now l.s.uppers.now i')) ≡ yes)

abbrev pub decreases-loop-i : goal.decreases-loop-i
decreases-loop-i l = l.s.problem.n - l.i
