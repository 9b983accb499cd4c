-- `negate`: after i turns i entries are negated, and the next is as it was.
use mathlib.Core.Path.{◌≡◌}
use Prim.Native.Nat.{◌-◌, ◌≤◌}
use lib.ListN.{length}
use lib.Ieee.{neg}
use Rattle.numbers.specs.Numbers.{at}
use Rattle.workspace.specs.Readings.{Block}
use Rattle.step.proofs.assembly.negate.Given as goal

abbrev pub invariant-loop-i : goal.invariant-loop-i
invariant-loop-i l = (l.i ≤ l.n) × (length l.w ≡ length l.initial.w) × Block 0 l.i (λ t. neg (at l.initial.w t)) l.initial.w l.w

abbrev pub decreases-loop-i : goal.decreases-loop-i
decreases-loop-i l = l.n - l.i
