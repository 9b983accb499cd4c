use mathlib.Core.Path.{◌≡◌}
use Prim.Native.Nat.{◌-◌, ◌≤◌}
use lib.ListN.{length}
use Rattle.day_volumes.specs.inner.Work.{Limiting}
use Rattle.day_volumes.proofs.pose.fill_limits.Given as goal

abbrev pub invariant-loop-k : goal.invariant-loop-k
invariant-loop-k l = (l.k ≤ l.k-end) × (length l.rows ≡ length l.initial.rows) × (length l.least ≡ length l.initial.least) × Limiting l.n l.z l.f l.k l.p l.rows l.least

abbrev pub decreases-loop-k : goal.decreases-loop-k
decreases-loop-k l = l.k-end - l.k
