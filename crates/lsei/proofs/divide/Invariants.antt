-- `divide`: after t turns t quotients are written.
use mathlib.Core.Path.{◌≡◌}
use Prim.Native.Nat.{◌+◌, ◌-◌, ◌≤◌}
use lib.ListN.{length}
use Rattle.numbers.specs.Numbers.{at, ◌⊘◌}
use Rattle.workspace.specs.Readings.{Block}
use Rattle.lsei.proofs.divide.Given as goal

abbrev pub invariant-loop-t : goal.invariant-loop-t
invariant-loop-t l = (l.t ≤ l.c) × (length l.w ≡ length l.initial.w) × Block l.q l.t (λ i. at l.initial.w (l.p + i) ⊘ l.d) l.initial.w l.w

abbrev pub decreases-loop-t : goal.decreases-loop-t
decreases-loop-t l = l.c - l.t
