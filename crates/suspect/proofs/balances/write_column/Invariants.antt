-- `write_column`: after i turns i entries are written.
use mathlib.Core.Path.{◌≡◌}
use Prim.Native.Nat.{◌+◌, ◌*◌, ◌-◌, ◌≤◌}
use lib.ListN.{length}
use Rattle.numbers.specs.Numbers.{at, nth, entry}
use Rattle.workspace.specs.Readings.{Block}
use Rattle.suspect.specs.Suspect.{weight}
use Rattle.suspect.proofs.balances.write_column.Given as goal

abbrev pub invariant-loop-i : goal.invariant-loop-i
invariant-loop-i l = (l.i ≤ l.day.n) × (length l.w ≡ length l.initial.w) × Block (426 + l.k * 18) l.i (λ t. weight (nth l.day.still.now t) (at l.day.spreads.now t) (entry l.day.n l.day.balances.now l.k t)) l.initial.w l.w

abbrev pub decreases-loop-i : goal.decreases-loop-i
decreases-loop-i l = l.day.n - l.i
