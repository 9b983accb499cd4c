-- `turn`: the fours, and then column by column: the columns before j are under the reflector.
use mathlib.Core.Path.{◌≡◌}
use mathlib.Core.List.{List}
use Prim.Native.Nat.{◌-◌, ◌≤◌, ◌<◌}
use lib.ListN.{length}
use lib.Ieee.{Float}
use Rattle.householder.specs.inner.Work.{Turned}
use Rattle.householder.proofs.turn.Given as goal

abbrev pub invariant-loop-j : goal.invariant-loop-j
invariant-loop-j l = (l.k < l.j) × (l.j ≤ l.n) × (length l.w ≡ length l.initial.w) × ((v : List Float) → Turned l.m l.k l.initial.j v l.initial.w → Turned l.m l.k l.j v l.w)

abbrev pub decreases-loop-j : goal.decreases-loop-j
decreases-loop-j l = l.n - l.j
