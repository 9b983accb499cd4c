-- `test_leasts`: what is still to test gives the answer.
use mathlib.Core.Path.{◌≡◌}
use Prim.Native.Nat.{◌-◌, ◌≤◌}
use Rattle.settle_call.specs.inner.Work.{told_from, leasts_told}
use Rattle.settle_call.proofs.arguments.test_leasts.Given as goal

abbrev pub invariant-loop-k : goal.invariant-loop-k
invariant-loop-k l = (l.k ≤ l.p) × (told_from (leasts_told l.least) l.p 0 ≡ told_from (leasts_told l.least) (l.p - l.k) l.k)

abbrev pub decreases-loop-k : goal.decreases-loop-k
decreases-loop-k l = l.p - l.k
