-- `slopes`: the fours, and then entry by entry: the first j stand.
use mathlib.Core.Path.{◌≡◌}
use mathlib.Core.List.{List}
use Prim.Native.Nat.{◌-◌, ◌≤◌}
use lib.ListN.{length}
use lib.Ieee.{Float}
use Rattle.workspace.specs.Readings.{Block}
use Rattle.lsei_nullspace.specs.inner.Work.{slope_in}
use Rattle.lsei_nullspace.proofs.slopes.Given as goal

abbrev pub invariant-loop-j : goal.invariant-loop-j
invariant-loop-j l = (l.j ≤ l.n) × (length l.w ≡ length l.initial.w) × ((v : List Float) → Block 342 l.initial.j (λ t. slope_in l.me l.mg t v) v l.initial.w → Block 342 l.j (λ t. slope_in l.me l.mg t v) v l.w)

abbrev pub decreases-loop-j : goal.decreases-loop-j
decreases-loop-j l = l.n - l.j
