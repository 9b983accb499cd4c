-- `write_spreads`: after i turns i spreads are written.
use mathlib.Core.Path.{◌≡◌}
use Prim.Native.Nat.{◌-◌, ◌≤◌}
use lib.ListN.{length}
use Rattle.numbers.specs.Numbers.{at, nth}
use Rattle.workspace.specs.Readings.{stack, Block}
use Rattle.suspect.specs.Suspect.{unseen, new_spread}
use Rattle.suspect.proofs.measure.write_spreads.Given as goal

abbrev pub invariant-loop-i : goal.invariant-loop-i
invariant-loop-i l = (l.i ≤ l.day.n) × (length l.w ≡ length l.initial.w) × Block 1038 l.i (λ t. new_spread (nth l.day.still.now t) (at l.day.spreads.now t) (unseen l.day.n l.r (stack 732 l.day.n l.day.n l.initial.w) t)) l.initial.w l.w

abbrev pub decreases-loop-i : goal.decreases-loop-i
decreases-loop-i l = l.day.n - l.i
