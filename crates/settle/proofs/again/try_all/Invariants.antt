use mathlib.Core.Path.{◌≡◌}
use Prim.Native.Nat.{◌+◌, ◌-◌, ◌≤◌}
use lib.ListN.{length}
use Rattle.settle.specs.Lent.{measured_in}
use Rattle.settle.proofs.Tries.{Trying}
use Rattle.settle.proofs.again.try_all.Given as goal

abbrev pub invariant-loop-gone : goal.invariant-loop-gone
invariant-loop-gone l = (l.gone ≤ l.held + 1) × (length l.w ≡ length l.initial.w) × (length l.iw ≡ length l.initial.iw) × Trying (measured_in l.day) l.held l.gone l.initial.iw l.iw l.initial.w l.w

abbrev pub decreases-loop-gone : goal.decreases-loop-gone
decreases-loop-gone l = l.held + 1 - l.gone
