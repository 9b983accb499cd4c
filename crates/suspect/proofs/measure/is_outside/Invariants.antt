-- `is_outside`: after k turns it speaks of k balances.
use mathlib.Core.Path.{◌≡◌}
use Prim.Native.Nat.{◌-◌, ◌≤◌}
use Rattle.suspect.specs.Suspect.{is_outside}
use Rattle.suspect.proofs.measure.is_outside.Given as goal

abbrev pub invariant-loop-k : goal.invariant-loop-k
invariant-loop-k l = (l.k ≤ l.day.m) × (l.all ≡ is_outside l.day.n l.day.spreads.now l.day.balances.now l.day.still.now l.i l.k)

abbrev pub decreases-loop-k : goal.decreases-loop-k
decreases-loop-k l = l.day.m - l.k
