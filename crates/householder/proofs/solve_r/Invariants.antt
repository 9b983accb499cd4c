-- `solve_r`: the first i rows are still to be solved.
use mathlib.Core.Path.{◌≡◌}
use lib.ListN.{length}
use Rattle.householder.proofs.Solving.{SolvingR}
use Rattle.householder.proofs.solve_r.Given as goal

abbrev pub invariant-loop-i : goal.invariant-loop-i
invariant-loop-i l = (length l.w ≡ length l.initial.w) × SolvingR l.k l.i l.initial.w l.w
