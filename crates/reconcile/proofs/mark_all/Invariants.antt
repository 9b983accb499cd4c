-- `mark_all`: after i turns i marks are written.
use mathlib.Core.Path.{◌≡◌}
use Prim.Native.Nat.{◌-◌, ◌≤◌}
use lib.ListN.{length}
use Rattle.numbers.specs.Numbers.{at}
use Rattle.workspace.specs.Readings.{Span}
use Rattle.reconcile.specs.Day.{mark}
use Rattle.reconcile.proofs.mark_all.Given as goal

abbrev pub invariant-loop-i : goal.invariant-loop-i
invariant-loop-i l = (l.i ≤ l.n) × (length l.marks ≡ length l.initial.marks) × Span 0 l.i (λ t. mark (at l.volumes t)) l.initial.marks l.marks

abbrev pub decreases-loop-i : goal.decreases-loop-i
decreases-loop-i l = l.n - l.i
