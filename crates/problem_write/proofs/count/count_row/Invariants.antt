-- `count_row`: before turn j the first j entries are counted.
use mathlib.Core.Path.{◌≡◌}
use Prim.Native.Nat.{◌-◌, ◌≤◌}
use lib.ListN.{length}
use Rattle.problem_write.specs.inner.Work.{row_entries}
use Rattle.problem_write.proofs.count.count_row.Given as goal

abbrev pub invariant-loop-j : goal.invariant-loop-j
invariant-loop-j l = (l.j ≤ l.k) × (l.total ≡ length (row_entries l.tag l.row l.j l.from l.xs))

abbrev pub decreases-loop-j : goal.decreases-loop-j
decreases-loop-j l = l.k - l.j
