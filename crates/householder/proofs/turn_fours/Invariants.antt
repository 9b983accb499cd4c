-- `turn_fours`: after q turns 4 q columns are under the reflector.
use mathlib.Core.Path.{◌≡◌}
use Prim.Native.Nat.{◌+◌, ◌*◌, ◌-◌, ◌/◌, ◌≤◌}
use lib.ListN.{length}
use Rattle.householder.specs.inner.Work.{Turned}
use Rattle.householder.proofs.turn_fours.Given as goal

abbrev pub invariant-loop-q : goal.invariant-loop-q
invariant-loop-q l = (l.c ≡ (l.n - (l.k + 1)) / 4) × (l.q ≤ l.c) × (length l.w ≡ length l.initial.w) × Turned l.m l.k (l.k + 1 + l.q * 4) l.initial.w l.w

abbrev pub decreases-loop-q : goal.decreases-loop-q
decreases-loop-q l = l.c - l.q
