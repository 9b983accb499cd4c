-- `values_of` meets its contract.
use mathlib.Core.Path.{◌≡◌}
use Prim.Native.Nat.{◌≤◌, ◌-◌}
use lib.ListN.{length}
use Rattle.replay_list.proofs.call.values_of.Given as goal

abbrev pub invariant-loop-i : goal.invariant-loop-i
invariant-loop-i l = (l.i ≤ 1525) × (1525 ≡ length l.values)

abbrev pub decreases-loop-i : goal.decreases-loop-i
decreases-loop-i l = 1525 - l.i
