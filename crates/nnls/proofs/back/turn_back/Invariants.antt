-- `turn_back`: after j turns the first j columns are turned back.
use mathlib.Core.Path.{◌≡◌}
use Prim.Native.Nat.{◌-◌, ◌≤◌}
use lib.ListN.{length}
use Rattle.nnls.specs.inner.Back.{TurnedBack}
use Rattle.nnls.proofs.back.turn_back.Given as goal

abbrev pub invariant-loop-j : goal.invariant-loop-j
invariant-loop-j l = (l.j ≤ l.n) × (l.c ≤ l.j) × (length l.iw ≡ length l.initial.iw) × TurnedBack l.j l.c l.w l.initial.iw l.iw

abbrev pub decreases-loop-j : goal.decreases-loop-j
decreases-loop-j l = l.n - l.j
