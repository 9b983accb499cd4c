-- `dual_fours`: after q turns 4 q entries stand.
use mathlib.Core.Path.{◌≡◌}
use Prim.Native.Nat.{◌*◌, ◌-◌, ◌/◌, ◌≤◌}
use lib.ListN.{length}
use Rattle.workspace.specs.Readings.{Block}
use Rattle.nnls.specs.inner.Dual.{dual_at}
use Rattle.nnls.proofs.dual.dual_fours.Given as goal

abbrev pub invariant-loop-q : goal.invariant-loop-q
invariant-loop-q l = (l.c ≡ l.n / 4) × (l.q ≤ l.c) × (length l.w ≡ length l.initial.w) × Block 1338 (l.q * 4) (dual_at l.m l.initial.w) l.initial.w l.w

abbrev pub decreases-loop-q : goal.decreases-loop-q
decreases-loop-q l = l.c - l.q
