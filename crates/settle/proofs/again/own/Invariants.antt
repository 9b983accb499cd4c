use mathlib.Core.Path.{◌≡◌}
use Prim.Native.Nat.{◌-◌, ◌≤◌}
use Rattle.workspace.specs.Readings.{nums}
use Rattle.settle.specs.Settle.{owned}
use Rattle.settle.proofs.again.own.Given as goal

abbrev pub invariant-loop-t : goal.invariant-loop-t
invariant-loop-t l = (l.t ≤ l.c) × (l.settled ≡ owned l.day.n l.day.limits.now l.day.least.now l.t (nums 300 l.c l.iw) l.i l.v)

abbrev pub decreases-loop-t : goal.decreases-loop-t
decreases-loop-t l = l.c - l.t
