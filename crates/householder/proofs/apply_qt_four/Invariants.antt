-- `apply_qt_four`: after i turns i reflectors are applied to each vector.
use mathlib.Core.Path.{◌≡◌}
use Prim.Native.Nat.{◌-◌, ◌≤◌}
use lib.ListN.{length}
use Rattle.householder.specs.inner.Work.{AppliedFour}
use Rattle.householder.proofs.apply_qt_four.Given as goal

abbrev pub invariant-loop-i : goal.invariant-loop-i
invariant-loop-i l = (l.i ≤ l.k) × (length l.w ≡ length l.initial.w) × AppliedFour l.m l.i l.o l.initial.w l.w

abbrev pub decreases-loop-i : goal.decreases-loop-i
decreases-loop-i l = l.k - l.i
