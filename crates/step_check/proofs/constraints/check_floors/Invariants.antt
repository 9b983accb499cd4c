-- `check_floors`: after j turns j constraints have passed.
use mathlib.Core.Path.{◌≡◌}
use Prim.Native.Nat.{◌-◌, ◌≤◌}
use Rattle.step_rows.specs.Problem.{each, constraint_at}
use Rattle.step_check.specs.Check.{floor_rows, yes, first_failed}
use Rattle.step_check.specs.Lent.{problem_in}
use Rattle.step_check.proofs.constraints.check_floors.Given as goal

abbrev pub invariant-loop-j : goal.invariant-loop-j
invariant-loop-j l = (l.j ≤ l.s.problem.m) × (first_failed l.test l.tolerance (each l.j (λ j'. floor_rows (constraint_at (problem_in l.s) j') l.s.problem.n l.s.problem.jacobian.now l.s.problem.values.now l.s.d.now l.s.multipliers.now j')) ≡ yes)

abbrev pub decreases-loop-j : goal.decreases-loop-j
decreases-loop-j l = l.s.problem.m - l.j
