-- `lift_four`: after i turns 2 i entries of each vector are done, and one may be left.
use mathlib.Core.Path.{◌≡◌}
use Prim.Native.Nat.{◌-◌, ◌*◌, ◌/◌, ◌≤◌}
use lib.ListN.{length}
use Rattle.householder.specs.inner.Work.{Lifted}
use Rattle.householder.proofs.fours.lift_four.Given as goal

abbrev pub invariant-loop-i : goal.invariant-loop-i
invariant-loop-i l = (l.h ≡ l.n / 2) × (l.i ≤ l.h) × (length l.w ≡ length l.initial.w) × Lifted l.p l.q (l.i * 2) l.s l.initial.w l.w

abbrev pub decreases-loop-i : goal.decreases-loop-i
decreases-loop-i l = l.h - l.i
