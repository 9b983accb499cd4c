-- `residuals`: the fours, and then entry by entry: the first i stand.
use mathlib.Core.Path.{◌≡◌}
use mathlib.Core.List.{List}
use Prim.Native.Nat.{◌-◌, ◌≤◌}
use lib.ListN.{length}
use lib.Ieee.{Float}
use Rattle.workspace.specs.Readings.{Block}
use Rattle.lsei_nullspace.specs.inner.Work.{residual_in}
use Rattle.lsei_nullspace.proofs.residuals.Given as goal

abbrev pub invariant-loop-i : goal.invariant-loop-i
invariant-loop-i l = (l.i ≤ l.me) × (length l.w ≡ length l.initial.w) × ((v : List Float) → Block 360 l.initial.i (λ t. residual_in l.n t v) v l.initial.w → Block 360 l.i (λ t. residual_in l.n t v) v l.w)

abbrev pub decreases-loop-i : goal.decreases-loop-i
decreases-loop-i l = l.me - l.i
