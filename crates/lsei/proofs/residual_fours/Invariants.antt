-- `residual_fours`: after q turns 4 q entries stand.
use mathlib.Core.Path.{◌≡◌}
use Prim.Native.Nat.{◌*◌, ◌-◌, ◌/◌, ◌≤◌}
use lib.ListN.{length}
use Rattle.workspace.specs.Readings.{Block}
use Rattle.lsei.specs.inner.Work.{residual_in}
use Rattle.lsei.proofs.residual_fours.Given as goal

abbrev pub invariant-loop-q : goal.invariant-loop-q
invariant-loop-q l = (l.e ≡ l.c / 4) × (l.q ≤ l.e) × (length l.w ≡ length l.initial.w) × Block 1272 (l.q * 4) (λ j. residual_in l.m j l.initial.w) l.initial.w l.w

abbrev pub decreases-loop-q : goal.decreases-loop-q
decreases-loop-q l = l.e - l.q
