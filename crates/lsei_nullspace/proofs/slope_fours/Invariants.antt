-- `slope_fours`: after q turns 4 q entries stand.
use mathlib.Core.Path.{◌≡◌}
use Prim.Native.Nat.{◌*◌, ◌-◌, ◌/◌, ◌≤◌}
use lib.ListN.{length}
use Rattle.workspace.specs.Readings.{Block}
use Rattle.lsei_nullspace.specs.inner.Work.{slope_in}
use Rattle.lsei_nullspace.proofs.slope_fours.Given as goal

abbrev pub invariant-loop-q : goal.invariant-loop-q
invariant-loop-q l = (l.e ≡ l.n / 4) × (l.q ≤ l.e) × (length l.w ≡ length l.initial.w) × Block 342 (l.q * 4) (λ j. slope_in l.me l.mg j l.initial.w) l.initial.w l.w

abbrev pub decreases-loop-q : goal.decreases-loop-q
decreases-loop-q l = l.e - l.q
