-- `gather_sides`: after t turns t sides are copied.
use mathlib.Core.Path.{◌≡◌}
use Prim.Native.Nat.{◌+◌, ◌*◌, ◌-◌, ◌≤◌}
use lib.ListN.{length}
use Rattle.numbers.specs.Numbers.{at}
use Rattle.workspace.specs.Readings.{Block}
use Rattle.step.proofs.assembly.gather_sides.Given as goal

abbrev pub invariant-loop-t : goal.invariant-loop-t
invariant-loop-t l = (l.t ≤ l.c) × (length l.w ≡ length l.initial.w) × Block 732 l.t (λ i. at l.initial.w (444 + i * 18 + l.n)) l.initial.w l.w

abbrev pub decreases-loop-t : goal.decreases-loop-t
decreases-loop-t l = l.c - l.t
