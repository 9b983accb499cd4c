-- `push_floors`: after j turns the floors and bands of j constraints are pushed.
use mathlib.Core.Path.{◌≡◌}
use Prim.Native.Nat.{◌*◌, ◌-◌, ◌≤◌}
use lib.ListN.{length}
use Rattle.numbers.specs.Numbers.{at, nth, row}
use Rattle.step_rows.specs.Problem.{constraint_of, each, floors_of}
use Rattle.step_rows.specs.inner.Work.{Pushed}
use Rattle.step_rows.proofs.push_floors.Given as goal

abbrev pub invariant-loop-j : goal.invariant-loop-j
invariant-loop-j l = (l.j ≤ l.cs.m)
    × (length l.w ≡ length l.initial.w)
    × (l.k ≤ 2 * l.j)
    × Pushed l.o l.cs.n 0 l.k (each l.j (λ j'. floors_of (constraint_of (nth l.cs.kinds.now j') (at l.cs.widths.now j')) (row l.cs.n j' l.cs.jacobian.now) (at l.cs.values.now j'))) l.initial.w l.w

abbrev pub decreases-loop-j : goal.decreases-loop-j
decreases-loop-j l = l.cs.m - l.j
