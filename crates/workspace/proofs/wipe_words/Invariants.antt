-- `wipe_words`: after i turns the first i entries are zero.
use Prim.Native.Nat.{◌≤◌, ◌-◌}
use Rattle.workspace.proofs.Clears.{Wiped}
use Rattle.workspace.proofs.wipe_words.Given as goal

abbrev pub invariant-loop-i : goal.invariant-loop-i
invariant-loop-i l = (l.i ≤ l.n) × Wiped l.i 0 l.initial.iw l.iw

abbrev pub decreases-loop-i : goal.decreases-loop-i
decreases-loop-i l = l.n - l.i
