-- `move_down`: after t turns t numbers are moved, and what is still to be read is as it was.
use mathlib.Core.Path.{◌≡◌}
use Prim.Native.Nat.{◌-◌, ◌≤◌}
use lib.ListN.{length}
use Rattle.householder.specs.inner.Work.{Moved}
use Rattle.householder.proofs.vectors.move_down.Given as goal

abbrev pub invariant-loop-t : goal.invariant-loop-t
invariant-loop-t l = (l.t ≤ l.c) × (length l.w ≡ length l.initial.w) × Moved l.p l.q l.t l.initial.w l.w

abbrev pub decreases-loop-t : goal.decreases-loop-t
decreases-loop-t l = l.c - l.t
