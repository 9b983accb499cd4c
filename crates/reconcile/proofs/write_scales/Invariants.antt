-- `write_scales`: after i turns i rows are written.
use mathlib.Core.Path.{◌≡◌}
use Prim.Native.Nat.{◌-◌, ◌≤◌}
use lib.ListN.{length}
use Rattle.workspace.proofs.Copies.{Laid}
use Rattle.reconcile.specs.Day.{scale}
use Rattle.reconcile.proofs.Problems.{diagonal}
use Rattle.reconcile.proofs.write_scales.Given as goal

abbrev pub invariant-loop-i : goal.invariant-loop-i
invariant-loop-i l = (l.i ≤ l.n) × (length l.w ≡ length l.initial.w) × Laid 732 l.n l.i (λ k j. diagonal (scale l.spreads) k j) l.initial.w l.w

abbrev pub decreases-loop-i : goal.decreases-loop-i
decreases-loop-i l = l.n - l.i
