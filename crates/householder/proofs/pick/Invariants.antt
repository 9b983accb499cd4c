-- `pick`: after t turns t entries are picked, and what is still to be read is as it was.
use mathlib.Core.Path.{◌≡◌}
use Prim.Native.Nat.{◌+◌, ◌-◌, ◌≤◌}
use lib.ListN.{length}
use Rattle.numbers.specs.Numbers.{at, nth}
use Rattle.workspace.specs.Readings.{Block}
use Rattle.householder.proofs.pick.Given as goal

abbrev pub invariant-loop-t : goal.invariant-loop-t
invariant-loop-t l = (l.t ≤ l.n) × (length l.w ≡ length l.initial.w) × Block 360 l.t (λ i. at l.initial.w (l.o + nth l.iw i)) l.initial.w l.w

abbrev pub decreases-loop-t : goal.decreases-loop-t
decreases-loop-t l = l.n - l.t
