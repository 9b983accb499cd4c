-- `move_all`: after j turns the first j columns have moved.
use mathlib.Core.Path.{◌≡◌}
use Prim.Native.Nat.{◌-◌, ◌≤◌}
use lib.ListN.{length}
use Rattle.nnls.proofs.Moves.{Moving}
use Rattle.nnls.proofs.move_all.Given as goal

abbrev pub invariant-loop-j : goal.invariant-loop-j
invariant-loop-j l = (l.j ≤ l.n) × (length l.w ≡ length l.initial.w) × (length l.iw ≡ length l.initial.iw) × Moving l.n l.q l.ratio l.initial.w l.w l.initial.iw l.iw l.j

abbrev pub decreases-loop-j : goal.decreases-loop-j
decreases-loop-j l = l.n - l.j
