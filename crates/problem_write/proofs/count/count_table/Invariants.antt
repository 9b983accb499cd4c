-- `count_table`: before turn i the first i rows are counted.
use mathlib.Core.Path.{◌≡◌}
use Prim.Native.Nat.{◌-◌, ◌≤◌}
use lib.ListN.{length}
use Rattle.problem_write.specs.File.{entries_of}
use Rattle.problem_write.proofs.count.count_table.Given as goal

abbrev pub invariant-loop-i : goal.invariant-loop-i
invariant-loop-i l = (l.i ≤ l.rows) × (l.total ≡ length (entries_of l.tag l.i l.columns l.xs))

abbrev pub decreases-loop-i : goal.decreases-loop-i
decreases-loop-i l = l.rows - l.i
