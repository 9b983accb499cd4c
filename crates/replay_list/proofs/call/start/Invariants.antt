-- `start` meets its contract.
use Prim.Native.Nat.{◌≤◌, ◌-◌, ◌*◌}
use Rattle.replay_list.proofs.call.start.Given as goal

abbrev pub invariant-loop-k : goal.invariant-loop-k
invariant-loop-k l = (l.k ≤ l.i) × (l.sum ≤ 65536 * l.k)

abbrev pub decreases-loop-k : goal.decreases-loop-k
decreases-loop-k l = l.i - l.k
