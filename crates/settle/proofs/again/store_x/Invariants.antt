use mathlib.Core.Path.{◌≡◌}
use Prim.Native.Nat.{◌+◌, ◌-◌, ◌≤◌}
use lib.ListN.{length}
use Rattle.numbers.specs.Numbers.{at}
use Rattle.workspace.specs.Readings.{nums, Block}
use Rattle.settle.specs.Settle.{owned}
use Rattle.settle.proofs.again.store_x.Given as goal

abbrev pub invariant-loop-i : goal.invariant-loop-i
invariant-loop-i l = (l.i ≤ l.day.n) × (length l.w ≡ length l.initial.w) × Block 6114 l.i (λ t. owned l.day.n l.day.limits.now l.day.least.now l.c (nums 300 l.c l.iw) t (at l.initial.w (714 + t))) l.initial.w l.w

abbrev pub decreases-loop-i : goal.decreases-loop-i
decreases-loop-i l = l.day.n - l.i
