-- `solve_fours`: after q turns 4 q rows are solved.
use mathlib.Core.Path.{◌≡◌}
use Prim.Native.Nat.{◌*◌, ◌/◌, ◌≤◌, ◌-◌}
use lib.ListN.{length}
use Rattle.lsei.specs.inner.Work.{SolvedRows}
use Rattle.lsei.proofs.solve_fours.Given as goal

abbrev pub invariant-loop-q : goal.invariant-loop-q
invariant-loop-q l = (l.c ≡ l.mg / 4) × (l.q ≤ l.c) × (length l.w ≡ length l.initial.w) × SolvedRows l.n (l.q * 4) l.initial.w l.w

abbrev pub decreases-loop-q : goal.decreases-loop-q
decreases-loop-q l = l.c - l.q
