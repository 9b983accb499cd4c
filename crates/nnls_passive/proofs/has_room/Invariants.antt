-- `has_room`: after j turns the marked of the first j columns are counted.
use mathlib.Core.Path.{◌≡◌}
use Prim.Native.Nat.{◌-◌, ◌≤◌}
use lib.ListN.{length}
use Rattle.nnls_passive.specs.Passive.{members}
use Rattle.nnls_passive.proofs.has_room.Given as goal

abbrev pub invariant-loop-j : goal.invariant-loop-j
invariant-loop-j l = (l.j ≤ l.n) × (l.c ≤ l.j) × (l.c ≡ length (members l.iw l.j))

abbrev pub decreases-loop-j : goal.decreases-loop-j
decreases-loop-j l = l.n - l.j
