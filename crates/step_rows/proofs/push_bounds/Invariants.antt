-- `push_bounds`: after i turns the bounds of i variables are pushed.
use mathlib.Core.Path.{◌≡◌}
use Prim.Native.Nat.{◌+◌, ◌*◌, ◌-◌, ◌≤◌}
use mathlib.Core.List.{◌++◌}
use lib.ListN.{length}
use Rattle.numbers.specs.Numbers.{at}
use Rattle.step_rows.specs.Problem.{side_of, lower_row, upper_row, each}
use Rattle.step_rows.specs.inner.Work.{Pushed}
use Rattle.step_rows.proofs.push_bounds.Given as goal

abbrev pub invariant-loop-i : goal.invariant-loop-i
invariant-loop-i l = (l.i ≤ l.n)
    × (length l.w ≡ length l.initial.w)
    × (l.c ≤ l.k + 2 * l.i)
    × Pushed l.o l.columns l.k l.c (each l.i (λ i'. lower_row l.columns i' (side_of (at l.lower i')) ++ upper_row l.columns i' (side_of (at l.upper i')))) l.initial.w l.w

abbrev pub decreases-loop-i : goal.decreases-loop-i
decreases-loop-i l = l.n - l.i
