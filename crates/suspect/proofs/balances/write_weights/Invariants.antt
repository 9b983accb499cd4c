-- `write_weights`: after k turns k columns are written.
use mathlib.Core.Path.{◌≡◌}
use Prim.Native.Nat.{◌-◌, ◌≤◌}
use lib.ListN.{length}
use Rattle.numbers.specs.Numbers.{at, nth, entry}
use Rattle.suspect.specs.Suspect.{weight}
use Rattle.workspace.proofs.Copies.{Laid}
use Rattle.suspect.proofs.balances.write_weights.Given as goal

abbrev pub invariant-loop-k : goal.invariant-loop-k
invariant-loop-k l = (l.k ≤ l.day.m) × (length l.w ≡ length l.initial.w) × Laid 426 l.day.n l.k (λ j i. weight (nth l.day.still.now i) (at l.day.spreads.now i) (entry l.day.n l.day.balances.now j i)) l.initial.w l.w

abbrev pub decreases-loop-k : goal.decreases-loop-k
decreases-loop-k l = l.day.m - l.k
