-- `order_multipliers`: after j turns j multipliers are in order, and e equalities and i rows of floors and bands are passed.
use mathlib.Core.Path.{◌≡◌}
use Prim.Native.Nat.{◌-◌, ◌≤◌}
use mathlib.Core.List.{◌++◌}
use lib.ListN.{length}
use Rattle.numbers.specs.Numbers.{at}
use Rattle.workspace.specs.Readings.{vec, Block}
use Rattle.step.specs.Step.{in_order}
use Rattle.step.proofs.Ordering.{Passed}
use Rattle.step.proofs.assembly.order_multipliers.Given as goal

abbrev pub invariant-loop-j : goal.invariant-loop-j
invariant-loop-j l = (l.j ≤ length l.kinds)
    × (length l.w ≡ length l.initial.w)
    × Passed l.kinds l.c l.g (vec 378 l.c l.initial.w ++ vec 4350 l.g l.initial.w) l.j l.e l.i
    × Block 36 l.j (λ t. at (in_order l.kinds 0 l.c (vec 378 l.c l.initial.w ++ vec 4350 l.g l.initial.w)) t) l.initial.w l.w

abbrev pub decreases-loop-j : goal.decreases-loop-j
decreases-loop-j l = length l.kinds - l.j
