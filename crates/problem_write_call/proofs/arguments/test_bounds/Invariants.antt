-- `test_bounds`: what is still to test gives the answer.
use mathlib.Core.Path.{◌≡◌}
use Prim.Native.Nat.{◌-◌, ◌≤◌}
use Rattle.problem_write_call.specs.inner.Work.{bounds_told}
use Rattle.problem_write_call.proofs.arguments.test_bounds.Given as goal

abbrev pub invariant-loop-i : goal.invariant-loop-i
invariant-loop-i l = (l.i ≤ l.n) × (bounds_told l.lower l.upper l.n 0 ≡ bounds_told l.lower l.upper (l.n - l.i) l.i)

abbrev pub decreases-loop-i : goal.decreases-loop-i
decreases-loop-i l = l.n - l.i
