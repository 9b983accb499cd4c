-- `write_dual`: the fours, and then entry by entry: the first j stand.
use mathlib.Core.Path.{◌≡◌}
use mathlib.Core.List.{List}
use Prim.Native.Nat.{◌-◌, ◌≤◌}
use lib.ListN.{length}
use lib.Ieee.{Float}
use Rattle.workspace.specs.Readings.{Block}
use Rattle.nnls.specs.inner.Dual.{dual_at}
use Rattle.nnls.proofs.dual.write_dual.Given as goal

abbrev pub invariant-loop-j : goal.invariant-loop-j
invariant-loop-j l = (l.j ≤ l.n) × (length l.w ≡ length l.initial.w) × ((v : List Float) → Block 1338 l.initial.j (dual_at l.m v) v l.initial.w → Block 1338 l.j (dual_at l.m v) v l.w)

abbrev pub decreases-loop-j : goal.decreases-loop-j
decreases-loop-j l = l.n - l.j
