-- `lead_from`: the lead of the fours, and then column by column.
use mathlib.Core.Path.{◌≡◌}
use Prim.Native.Nat.{◌-◌, ◌≤◌}
use Rattle.householder.specs.inner.Search.{Leads}
use Rattle.householder.proofs.search.lead_from.Given as goal

abbrev pub invariant-loop-t : goal.invariant-loop-t
invariant-loop-t l = (l.c ≡ l.n - l.k) × (l.t ≤ l.c) × Leads l.m l.n l.k l.t l.w l.top

abbrev pub decreases-loop-t : goal.decreases-loop-t
decreases-loop-t l = l.c - l.t
