use mathlib.Core.Path.{◌≡◌}
use Prim.Native.Nat.{◌-◌, ◌≤◌}
use lib.ListN.{length}
use Rattle.workspace.specs.Readings.{Written}
use lib.Ieee.{nan}
use Rattle.day_volumes.specs.Posed.{limit_entry}
use Rattle.day_volumes.proofs.pose.put_limit.Given as goal

abbrev pub invariant-loop-i : goal.invariant-loop-i
invariant-loop-i l = (l.i ≤ l.n) × (length l.out ≡ length l.initial.out) × Written nan l.o l.i (limit_entry l.n l.z l.f l.k) l.initial.out l.out

abbrev pub decreases-loop-i : goal.decreases-loop-i
decreases-loop-i l = l.n - l.i
