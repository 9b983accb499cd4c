-- `are_clear`: after i turns the first i rows are clear.
use mathlib.Core.Path.{◌≡◌}
use mathlib.Core.Bool.{true}
use Prim.Native.Nat.{◌*◌, ◌≤◌, ◌-◌}
use Rattle.problem_read.specs.Input.{all_below}
use Rattle.problem_write_call.specs.inner.Work.{clear_at}
use Rattle.problem_write_call.proofs.arguments.are_clear.Given as goal

abbrev pub invariant-loop-i : goal.invariant-loop-i
invariant-loop-i l = (l.i ≤ l.n) × (all_below l.i (λ i'. all_below l.n (clear_at l.factor i' (i' * l.n))) ≡ true)

abbrev pub decreases-loop-i : goal.decreases-loop-i
decreases-loop-i l = l.n - l.i
