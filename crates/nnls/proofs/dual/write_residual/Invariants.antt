-- `write_residual`: the fours, and then entry by entry: the first i stand.
use mathlib.Core.Path.{◌≡◌}
use mathlib.Core.List.{List}
use Prim.Native.Nat.{◌-◌, ◌≤◌}
use lib.ListN.{length}
use lib.Ieee.{Float}
use Rattle.workspace.specs.Readings.{Block}
use Rattle.nnls.specs.inner.Dual.{residual_at}
use Rattle.nnls.proofs.dual.write_residual.Given as goal

abbrev pub invariant-loop-i : goal.invariant-loop-i
invariant-loop-i l = (l.i ≤ l.m) × (length l.w ≡ length l.initial.w) × ((v : List Float) → Block 1404 l.initial.i (residual_at l.n v) v l.initial.w → Block 1404 l.i (residual_at l.n v) v l.w)

abbrev pub decreases-loop-i : goal.decreases-loop-i
decreases-loop-i l = l.m - l.i
