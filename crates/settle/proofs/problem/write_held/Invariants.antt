use mathlib.Core.Path.{◌≡◌}
use Prim.Native.Nat.{◌-◌, ◌≤◌}
use lib.ListN.{length}
use Rattle.settle.specs.Lent.{measured_in}
use Rattle.settle.specs.inner.Work.{HeldIn}
use Rattle.settle.proofs.problem.write_held.Given as goal

abbrev pub invariant-loop-t : goal.invariant-loop-t
invariant-loop-t l = (l.t ≤ l.c) × (length l.w ≡ length l.initial.w) × HeldIn (measured_in l.day) l.t l.iw l.initial.w l.w

abbrev pub decreases-loop-t : goal.decreases-loop-t
decreases-loop-t l = l.c - l.t
