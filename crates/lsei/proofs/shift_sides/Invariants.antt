-- `shift_sides`: the fours, and then side by side: the sides before i are shifted.
use mathlib.Core.Path.{◌≡◌}
use mathlib.Core.List.{List}
use Prim.Native.Nat.{◌≤◌, ◌-◌}
use lib.ListN.{length}
use lib.Ieee.{Float}
use Rattle.lsei.specs.inner.Work.{Shifted}
use Rattle.lsei.proofs.shift_sides.Given as goal

abbrev pub invariant-loop-i : goal.invariant-loop-i
invariant-loop-i l = (l.i ≤ l.mg) × (length l.w ≡ length l.initial.w) × ((v : List Float) → Shifted l.n l.initial.i v l.initial.w → Shifted l.n l.i v l.w)

abbrev pub decreases-loop-i : goal.decreases-loop-i
decreases-loop-i l = l.mg - l.i
