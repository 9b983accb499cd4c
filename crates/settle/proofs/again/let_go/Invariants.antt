use mathlib.Core.Path.{◌≡◌}
use Prim.Native.Nat.{◌-◌, ◌≤◌}
use lib.ListN.{length}
use Rattle.settle.proofs.Working.{Shifted}
use Rattle.settle.proofs.again.let_go.Given as goal

abbrev pub invariant-loop-i : goal.invariant-loop-i
invariant-loop-i l = (l.t ≤ l.i) × (length l.iw ≡ length l.initial.iw) × Shifted l.t l.i l.initial.iw l.iw

abbrev pub decreases-loop-i : goal.decreases-loop-i
decreases-loop-i l = l.c - l.i
