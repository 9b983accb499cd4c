-- `apply_q`: the first i reflectors are still to be applied.
use mathlib.Core.Path.{◌≡◌}
use lib.ListN.{length}
use Rattle.householder.proofs.Solving.{ApplyingQ}
use Rattle.householder.proofs.apply_q.Given as goal

abbrev pub invariant-loop-i : goal.invariant-loop-i
invariant-loop-i l = (length l.w ≡ length l.initial.w) × ApplyingQ l.m l.k l.i l.o l.initial.w l.w
