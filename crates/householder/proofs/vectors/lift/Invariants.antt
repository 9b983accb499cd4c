-- `lift`: after t turns t numbers are lifted.
use mathlib.Core.Path.{◌≡◌}
use Prim.Native.Nat.{◌+◌, ◌-◌, ◌≤◌}
use lib.ListN.{length}
use Rattle.numbers.specs.Numbers.{◌⊕◌, ◌⊗◌, at}
use Rattle.workspace.specs.Readings.{Block}
use Rattle.householder.proofs.vectors.lift.Given as goal

abbrev pub invariant-loop-t : goal.invariant-loop-t
invariant-loop-t l = (l.t ≤ l.c) × (length l.w ≡ length l.initial.w) × Block l.q l.t (λ i. at l.initial.w (l.q + i) ⊕ l.s ⊗ at l.initial.w (l.p + i)) l.initial.w l.w

abbrev pub decreases-loop-t : goal.decreases-loop-t
decreases-loop-t l = l.c - l.t
