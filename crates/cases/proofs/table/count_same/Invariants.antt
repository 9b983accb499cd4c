-- `count_same`: no more are the same than were looked at.
use Rattle.std.proofs.Common.{◌≤◌}
use Rattle.cases.proofs.table.count_same.Given as goal

abbrev pub invariant-loop-i : goal.invariant-loop-i
invariant-loop-i l = l.same ≤ l.i
