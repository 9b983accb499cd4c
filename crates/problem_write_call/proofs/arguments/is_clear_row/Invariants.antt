-- `is_clear_row`: after j turns the first j entries are clear.
use mathlib.Core.Path.{◌≡◌}
use mathlib.Core.Bool.{true}
use Prim.Native.Nat.{◌≤◌, ◌-◌}
use Rattle.problem_read.specs.Input.{all_below}
use Rattle.problem_write_call.specs.inner.Work.{clear_at}
use Rattle.problem_write_call.proofs.arguments.is_clear_row.Given as goal

abbrev pub invariant-loop-j : goal.invariant-loop-j
invariant-loop-j l = (l.j ≤ l.n) × (all_below l.j (clear_at l.factor l.i l.from) ≡ true)

abbrev pub decreases-loop-j : goal.decreases-loop-j
decreases-loop-j l = l.n - l.j
