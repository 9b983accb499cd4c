-- `pivot_fours`: after q turns the lead is that of 4 q columns.
use mathlib.Core.Path.{◌≡◌}
use Prim.Native.Nat.{◌*◌, ◌-◌, ◌/◌, ◌≤◌}
use Rattle.householder.specs.inner.Search.{Leads}
use Rattle.householder.proofs.search.pivot_fours.Given as goal

abbrev pub invariant-loop-q : goal.invariant-loop-q
invariant-loop-q l = (l.c ≡ (l.n - l.k) / 4) × (l.q ≤ l.c) × Leads l.m l.n l.k (l.q * 4) l.w l.top

abbrev pub decreases-loop-q : goal.decreases-loop-q
decreases-loop-q l = l.c - l.q
