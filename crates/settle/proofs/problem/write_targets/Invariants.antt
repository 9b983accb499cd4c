use mathlib.Core.Path.{◌≡◌}
use Prim.Native.Nat.{◌-◌, ◌≤◌}
use lib.ListN.{length}
use Rattle.workspace.specs.Readings.{Block}
use Rattle.settle.specs.Settle.{target}
use Rattle.settle.proofs.problem.write_targets.Given as goal

abbrev pub invariant-loop-i : goal.invariant-loop-i
invariant-loop-i l = (l.i ≤ l.day.n) × (length l.w ≡ length l.initial.w) × Block 1038 l.i (λ t. target l.day.values.now l.day.spreads.now t) l.initial.w l.w

abbrev pub decreases-loop-i : goal.decreases-loop-i
decreases-loop-i l = l.day.n - l.i
