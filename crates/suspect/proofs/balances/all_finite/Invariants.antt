-- `all_finite`: after k turns it speaks of k balances.
use mathlib.Core.Path.{◌≡◌}
use Prim.Native.Nat.{◌-◌, ◌≤◌}
use Rattle.suspect.specs.Suspect.{are_finite}
use Rattle.suspect.proofs.balances.all_finite.Given as goal

abbrev pub invariant-loop-k : goal.invariant-loop-k
invariant-loop-k l = (l.k ≤ l.day.m) × (l.all ≡ are_finite l.day.n l.day.values.now l.day.balances.now l.k)

abbrev pub decreases-loop-k : goal.decreases-loop-k
decreases-loop-k l = l.day.m - l.k
