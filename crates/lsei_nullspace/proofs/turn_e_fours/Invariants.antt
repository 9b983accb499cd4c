-- `turn_e_fours`: after q turns 4 q rows are laid.
use mathlib.Core.Path.{◌≡◌}
use Prim.Native.Nat.{◌*◌, ◌/◌, ◌≤◌, ◌-◌}
use lib.ListN.{length}
use Rattle.lsei_nullspace.specs.inner.Work.{RowsOfE}
use Rattle.lsei_nullspace.proofs.turn_e_fours.Given as goal

abbrev pub invariant-loop-q : goal.invariant-loop-q
invariant-loop-q l = (l.c ≡ l.me / 4) × (l.q ≤ l.c) × (length l.w ≡ length l.initial.w) × RowsOfE l.n l.mc (l.q * 4) l.initial.w l.w

abbrev pub decreases-loop-q : goal.decreases-loop-q
decreases-loop-q l = l.c - l.q
