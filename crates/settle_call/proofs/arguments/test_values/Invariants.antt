-- `test_values`: what is still to test gives the answer.
use mathlib.Core.Path.{◌≡◌}
use Prim.Native.Nat.{◌-◌, ◌≤◌}
use Rattle.settle_call.specs.inner.Work.{told_from, values_told}
use Rattle.settle_call.proofs.arguments.test_values.Given as goal

abbrev pub invariant-loop-i : goal.invariant-loop-i
invariant-loop-i l = (l.i ≤ l.n) × (told_from (values_told l.values l.spreads) l.n 0 ≡ told_from (values_told l.values l.spreads) (l.n - l.i) l.i)

abbrev pub decreases-loop-i : goal.decreases-loop-i
decreases-loop-i l = l.n - l.i
