-- `pair_multipliers`: after j turns j multipliers are in order, and r rows are passed.
use mathlib.Core.Path.{◌≡◌}
use Prim.Native.Nat.{◌-◌, ◌≤◌}
use lib.ListN.{length}
use Rattle.numbers.specs.Numbers.{at}
use Rattle.workspace.specs.Readings.{vec, Block}
use Rattle.step.specs.Step.{paired}
use Rattle.step.proofs.Ordering.{PassedRows}
use Rattle.step.proofs.assembly.pair_multipliers.Given as goal

abbrev pub invariant-loop-j : goal.invariant-loop-j
invariant-loop-j l = (l.j ≤ length l.kinds)
    × (length l.w ≡ length l.initial.w)
    × PassedRows l.kinds l.g (vec 2106 l.g l.initial.w) l.j l.r
    × Block 36 l.j (λ t. at (paired l.kinds 0 (vec 2106 l.g l.initial.w)) t) l.initial.w l.w

abbrev pub decreases-loop-j : goal.decreases-loop-j
decreases-loop-j l = length l.kinds - l.j
