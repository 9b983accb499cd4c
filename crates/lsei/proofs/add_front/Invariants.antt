-- `add_front`: after t turns t sums are written.
use mathlib.Core.Path.{◌≡◌}
use Prim.Native.Nat.{◌+◌, ◌-◌, ◌≤◌}
use lib.ListN.{length}
use Rattle.numbers.specs.Numbers.{at, ◌⊕◌}
use Rattle.workspace.specs.Readings.{Block}
use Rattle.lsei.proofs.add_front.Given as goal

abbrev pub invariant-loop-t : goal.invariant-loop-t
invariant-loop-t l = (l.t ≤ l.n) × (length l.w ≡ length l.initial.w) × Block 342 l.t (λ i. at l.initial.w (2154 + i) ⊕ at l.initial.w (732 + i)) l.initial.w l.w

abbrev pub decreases-loop-t : goal.decreases-loop-t
decreases-loop-t l = l.n - l.t
