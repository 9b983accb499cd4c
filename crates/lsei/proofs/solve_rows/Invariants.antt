-- `solve_rows`: the fours, and then row by row: the rows before i are solved.
use mathlib.Core.Path.{◌≡◌}
use mathlib.Core.List.{List}
use Prim.Native.Nat.{◌≤◌, ◌-◌}
use lib.ListN.{length}
use lib.Ieee.{Float}
use Rattle.lsei.specs.inner.Work.{SolvedRows}
use Rattle.lsei.proofs.solve_rows.Given as goal

abbrev pub invariant-loop-i : goal.invariant-loop-i
invariant-loop-i l = (l.i ≤ l.mg) × (length l.w ≡ length l.initial.w) × ((v : List Float) → SolvedRows l.n l.initial.i v l.initial.w → SolvedRows l.n l.i v l.w)

abbrev pub decreases-loop-i : goal.decreases-loop-i
decreases-loop-i l = l.mg - l.i
