-- `write_targets`: after i turns i entries are written.
use mathlib.Core.Path.{◌≡◌}
use Prim.Native.Nat.{◌-◌, ◌≤◌}
use lib.ListN.{length}
use Rattle.workspace.specs.Readings.{Block}
use Rattle.reconcile.specs.Day.{target}
use Rattle.reconcile.proofs.write_targets.Given as goal

abbrev pub invariant-loop-i : goal.invariant-loop-i
invariant-loop-i l = (l.i ≤ l.n) × (length l.w ≡ length l.initial.w) × Block 1038 l.i (λ t. target l.before l.after l.spreads t) l.initial.w l.w

abbrev pub decreases-loop-i : goal.decreases-loop-i
decreases-loop-i l = l.n - l.i
