-- `swap`: after i turns i rows are exchanged.
use mathlib.Core.Path.{◌≡◌}
use Prim.Native.Nat.{◌-◌, ◌≤◌}
use lib.ListN.{length}
use Rattle.householder.specs.inner.Work.{Exchanged}
use Rattle.householder.proofs.vectors.swap.Given as goal

abbrev pub invariant-loop-i : goal.invariant-loop-i
invariant-loop-i l = (l.i ≤ l.m) × (length l.w ≡ length l.initial.w) × Exchanged l.i l.k l.p l.initial.w l.w

abbrev pub decreases-loop-i : goal.decreases-loop-i
decreases-loop-i l = l.m - l.i
