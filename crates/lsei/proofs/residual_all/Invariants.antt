-- `residual_all`: the fours, and then entry by entry: the first j stand.
use mathlib.Core.Path.{◌≡◌}
use mathlib.Core.List.{List}
use Prim.Native.Nat.{◌-◌, ◌≤◌}
use lib.ListN.{length}
use lib.Ieee.{Float}
use Rattle.workspace.specs.Readings.{Block}
use Rattle.lsei.specs.inner.Work.{residual_in}
use Rattle.lsei.proofs.residual_all.Given as goal

abbrev pub invariant-loop-j : goal.invariant-loop-j
invariant-loop-j l = (l.j ≤ l.c) × (length l.w ≡ length l.initial.w) × ((v : List Float) → Block 1272 l.initial.j (λ t. residual_in l.m t v) v l.initial.w → Block 1272 l.j (λ t. residual_in l.m t v) v l.w)

abbrev pub decreases-loop-j : goal.decreases-loop-j
decreases-loop-j l = l.c - l.j
