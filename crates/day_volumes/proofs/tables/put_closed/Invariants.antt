use mathlib.Core.Path.{◌≡◌}
use Prim.Native.Nat.{◌-◌, ◌≤◌}
use lib.ListN.{length}
use Rattle.workspace.specs.Readings.{Written}
use Rattle.certain.specs.Bound.{closes}
use Rattle.day_volumes.specs.Found.{flag}
use Rattle.day_volumes.proofs.tables.put_closed.Given as goal

abbrev pub invariant-loop-j : goal.invariant-loop-j
invariant-loop-j l = (l.j ≤ l.day.m) × (length l.out ≡ length l.initial.out) × Written 0 16 l.j (λ k. flag (closes l.day.n k l.day.balances.now l.x l.tolerance)) l.initial.out l.out

abbrev pub decreases-loop-j : goal.decreases-loop-j
decreases-loop-j l = l.day.m - l.j
