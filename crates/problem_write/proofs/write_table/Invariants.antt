-- `write_table`: before turn i the first i rows are written.
use Prim.Native.Nat.{◌-◌, ◌≤◌}
use Rattle.problem_write.specs.File.{entries_of}
use Rattle.problem_write.specs.inner.Work.{Wrote}
use Rattle.problem_write.proofs.write_table.Given as goal

abbrev pub invariant-loop-i : goal.invariant-loop-i
invariant-loop-i l = (l.i ≤ l.rows) × Wrote l.at (entries_of l.tag l.i l.columns l.xs) l.to l.initial.out l.out

abbrev pub decreases-loop-i : goal.decreases-loop-i
decreases-loop-i l = l.rows - l.i
