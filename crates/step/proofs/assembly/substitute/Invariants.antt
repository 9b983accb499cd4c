-- `substitute`: after i turns i entries are solved for.
use mathlib.Core.Path.{◌≡◌}
use Prim.Native.Nat.{◌-◌, ◌≤◌}
use lib.ListN.{length}
use Rattle.numbers.specs.Numbers.{transposed}
use Rattle.workspace.specs.Readings.{vec}
use Rattle.householder.specs.Qr.{downward}
use Rattle.step.proofs.assembly.substitute.Given as goal

abbrev pub invariant-loop-i : goal.invariant-loop-i
invariant-loop-i l = (l.i ≤ l.n) × (length l.w ≡ length l.initial.w) × (vec 0 l.n l.w ≡ downward l.n (transposed l.n l.n l.factor) l.i (vec 0 l.n l.initial.w))

abbrev pub decreases-loop-i : goal.decreases-loop-i
decreases-loop-i l = l.n - l.i
