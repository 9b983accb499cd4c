-- `test_bounds`: what is still to test gives the answer.
use mathlib.Core.Path.{◌≡◌}
use Prim.Native.Nat.{◌-◌, ◌≤◌}
use Rattle.step_call.specs.inner.Work.{bounds_outcome}
use Rattle.step_call.proofs.strict.test_bounds.Given as goal

abbrev pub invariant-loop-i : goal.invariant-loop-i
invariant-loop-i l = (l.i ≤ l.tested) × (bounds_outcome l.lower l.upper l.tested 0 ≡ bounds_outcome l.lower l.upper (l.tested - l.i) l.i)

abbrev pub decreases-loop-i : goal.decreases-loop-i
decreases-loop-i l = l.tested - l.i
