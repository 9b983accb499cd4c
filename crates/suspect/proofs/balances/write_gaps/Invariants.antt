-- `write_gaps`: after t turns t gaps are written.
use mathlib.Core.Path.{◌≡◌}
use Prim.Native.Nat.{◌-◌, ◌≤◌}
use lib.ListN.{length}
use Rattle.numbers.specs.Numbers.{nth}
use Rattle.workspace.specs.Readings.{Block}
use Rattle.suspect.specs.Suspect.{gap}
use lib.Ieee.{neg}
use Rattle.suspect.proofs.balances.write_gaps.Given as goal

abbrev pub invariant-loop-t : goal.invariant-loop-t
invariant-loop-t l = (l.t ≤ l.r) × (length l.w ≡ length l.initial.w) × Block 714 l.t (λ k. neg (gap l.day.n l.day.values.now l.day.balances.now (nth l.iw k))) l.initial.w l.w

abbrev pub decreases-loop-t : goal.decreases-loop-t
decreases-loop-t l = l.r - l.t
