-- `write_row`: before turn j the first j entries are written.
use Prim.Native.Nat.{◌-◌, ◌≤◌}
use Rattle.problem_write.specs.inner.Work.{Wrote, row_entries}
use Rattle.problem_write.proofs.write_row.Given as goal

abbrev pub invariant-loop-j : goal.invariant-loop-j
invariant-loop-j l = (l.j ≤ l.k) × Wrote l.at (row_entries l.tag l.row l.j l.from l.xs) l.to l.initial.out l.out

abbrev pub decreases-loop-j : goal.decreases-loop-j
decreases-loop-j l = l.k - l.j
