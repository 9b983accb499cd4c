-- `place`: after t turns t entries are placed.
use mathlib.Core.Path.{◌≡◌}
use Prim.Native.Nat.{◌-◌, ◌≤◌}
use lib.ListN.{length}
use Rattle.householder.specs.inner.Work.{Placed}
use Rattle.householder.proofs.place.Given as goal

abbrev pub invariant-loop-t : goal.invariant-loop-t
invariant-loop-t l = (l.t ≤ l.k) × (length l.w ≡ length l.initial.w) × Placed l.n l.t l.iw l.initial.w l.w

abbrev pub decreases-loop-t : goal.decreases-loop-t
decreases-loop-t l = l.k - l.t
