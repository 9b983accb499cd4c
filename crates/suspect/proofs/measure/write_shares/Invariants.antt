-- `write_shares`: after i turns i shares are written.
use mathlib.Core.Path.{◌≡◌}
use Prim.Native.Nat.{◌-◌, ◌≤◌}
use lib.ListN.{length}
use Rattle.workspace.specs.Readings.{stack, Block}
use Rattle.suspect.specs.Suspect.{share}
use Rattle.suspect.proofs.measure.write_shares.Given as goal

abbrev pub invariant-loop-i : goal.invariant-loop-i
invariant-loop-i l = (l.i ≤ l.day.n) × (length l.w ≡ length l.initial.w) × Block 1020 l.i (share l.day.n l.day.m l.r l.day.spreads.now l.day.balances.now l.day.still.now (stack 732 l.day.n l.day.n l.initial.w)) l.initial.w l.w

abbrev pub decreases-loop-i : goal.decreases-loop-i
decreases-loop-i l = l.day.n - l.i
