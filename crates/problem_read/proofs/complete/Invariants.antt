-- `complete`: after i turns the first i constraints are whole.
use mathlib.Core.Path.{◌≡◌}
use mathlib.Core.Bool.{true}
use Prim.Native.Nat.{◌≤◌, ◌-◌}
use Rattle.problem_read.specs.Input.{all_below}
use Rattle.problem_read.specs.inner.Spots.{whole_at}
use Rattle.problem_read.proofs.complete.Given as goal

abbrev pub invariant-loop-i : goal.invariant-loop-i
invariant-loop-i l = (l.i ≤ l.m) × (all_below l.i (whole_at l.marks) ≡ true)

abbrev pub decreases-loop-i : goal.decreases-loop-i
decreases-loop-i l = l.m - l.i
