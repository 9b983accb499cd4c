-- `write_constraints`: before turn i the first i constraints are written.
use Prim.Native.Nat.{◌-◌, ◌≤◌}
use Rattle.problem_write.specs.inner.Work.{Wrote, all_constraints}
use Rattle.problem_write.proofs.write_constraints.Given as goal

abbrev pub invariant-loop-i : goal.invariant-loop-i
invariant-loop-i l = (l.i ≤ l.fn.p.m) × Wrote l.at (all_constraints l.i l.fn.p.kinds.now l.fn.p.values.now l.fn.p.widths.now) l.to l.initial.out l.out

abbrev pub decreases-loop-i : goal.decreases-loop-i
decreases-loop-i l = l.fn.p.m - l.i
