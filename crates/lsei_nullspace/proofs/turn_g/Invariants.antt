-- `turn_g`: the fours, and then row by row.
use mathlib.Core.Path.{◌≡◌}
use mathlib.Core.List.{List}
use Prim.Native.Nat.{◌≤◌, ◌-◌}
use lib.ListN.{length}
use lib.Ieee.{Float}
use Rattle.lsei_nullspace.specs.inner.Work.{RowsOfG}
use Rattle.lsei_nullspace.proofs.turn_g.Given as goal

abbrev pub invariant-loop-i : goal.invariant-loop-i
invariant-loop-i l = (l.i ≤ l.mg) × (length l.w ≡ length l.initial.w) × ((v : List Float) → RowsOfG l.n l.mc l.initial.i v l.initial.w → RowsOfG l.n l.mc l.i v l.w)

abbrev pub decreases-loop-i : goal.decreases-loop-i
decreases-loop-i l = l.mg - l.i
