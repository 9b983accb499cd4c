use mathlib.Core.Path.{◌≡◌}
use Prim.Native.Nat.{◌-◌, ◌≤◌}
use lib.ListN.{length}
use Rattle.settle.proofs.Working.{Finding}
use Rattle.workspace.specs.Readings.{vec}
use Rattle.settle.proofs.again.find_held.Given as goal

abbrev pub invariant-loop-k : goal.invariant-loop-k
invariant-loop-k l = (l.k ≤ l.p) × (length l.iw ≡ length l.initial.iw) × Finding l.k l.c (vec 6066 l.p l.w) l.iw

abbrev pub decreases-loop-k : goal.decreases-loop-k
decreases-loop-k l = l.p - l.k
