-- `turn_e_four`: four rows under Q', and after r turns r of them are laid.
use mathlib.Core.Path.{◌≡◌}
use mathlib.Core.List.{List}
use Prim.Native.Nat.{◌≤◌, ◌-◌}
use lib.ListN.{length}
use lib.Ieee.{Float}
use Rattle.lsei_nullspace.proofs.Turning.{LayingE}
use Rattle.lsei_nullspace.proofs.turn_e_four.Given as goal

abbrev pub invariant-loop-r : goal.invariant-loop-r
invariant-loop-r l = (l.r ≤ 4) × (length l.w ≡ length l.initial.w) × ((v : List Float) → LayingE l.n l.mc l.i 0 v l.initial.w → LayingE l.n l.mc l.i l.r v l.w)

abbrev pub decreases-loop-r : goal.decreases-loop-r
decreases-loop-r l = 4 - l.r
