-- `read_lines`: the lines that are left give the answer.
use Prim.Native.Nat.{◌+◌, ◌-◌, ◌≤◌}
use lib.ListN.{length}
use Rattle.plant_lines.specs.inner.Work.{SoFar}
use Rattle.plant_lines.proofs.read_lines.Given as goal

abbrev pub invariant-loop-at : goal.invariant-loop-at
invariant-loop-at l = (l.k ≤ l.at) × (l.at ≤ length l.plant + 1) × SoFar l.plant l.from l.at l.k l.metered l.table

abbrev pub decreases-loop-at : goal.decreases-loop-at
decreases-loop-at l = length l.plant - l.at
