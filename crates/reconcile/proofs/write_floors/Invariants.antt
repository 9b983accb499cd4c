-- `write_floors`: after i turns i rows are written, each with its side.
use mathlib.Core.Path.{◌≡◌}
use Prim.Native.Nat.{◌+◌, ◌-◌, ◌≤◌}
use lib.ListN.{length}
use Rattle.numbers.specs.Numbers.{one}
use Rattle.workspace.proofs.Copies.{Laid}
use Rattle.reconcile.proofs.Problems.{diagonal}
use Rattle.reconcile.proofs.write_floors.Given as goal

abbrev pub invariant-loop-i : goal.invariant-loop-i
invariant-loop-i l = (l.i ≤ l.n) × (length l.w ≡ length l.initial.w) × Laid 1056 (l.n + 1) l.i (λ k j. diagonal (λ _. one) k j) l.initial.w l.w

abbrev pub decreases-loop-i : goal.decreases-loop-i
decreases-loop-i l = l.n - l.i
