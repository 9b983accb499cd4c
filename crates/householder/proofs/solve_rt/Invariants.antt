-- `solve_rt`: after i turns i rows are solved.
use mathlib.Core.Path.{◌≡◌}
use Prim.Native.Nat.{◌-◌, ◌≤◌}
use lib.ListN.{length}
use Rattle.householder.proofs.Solving.{SolvingRt}
use Rattle.householder.proofs.solve_rt.Given as goal

abbrev pub invariant-loop-i : goal.invariant-loop-i
invariant-loop-i l = (l.i ≤ l.k) × (length l.w ≡ length l.initial.w) × SolvingRt l.n l.k l.o l.i l.initial.w l.w

abbrev pub decreases-loop-i : goal.decreases-loop-i
decreases-loop-i l = l.k - l.i
