-- `copy_negated`: after t turns t entries are written.
use mathlib.Core.Path.{◌≡◌}
use Prim.Native.Nat.{◌+◌, ◌-◌, ◌≤◌}
use lib.ListN.{length}
use lib.Ieee.{neg}
use Rattle.numbers.specs.Numbers.{at}
use Rattle.workspace.specs.Readings.{Block}
use Rattle.step_rows.proofs.copy_negated.Given as goal

abbrev pub invariant-loop-t : goal.invariant-loop-t
invariant-loop-t l = (l.t ≤ l.n) × (length l.w ≡ length l.initial.w) × Block l.q l.t (λ i. neg (at l.a (l.p + i))) l.initial.w l.w

abbrev pub decreases-loop-t : goal.decreases-loop-t
decreases-loop-t l = l.n - l.t
