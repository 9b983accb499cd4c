use mathlib.Core.Path.{◌≡◌}
use Prim.Native.Nat.{◌+◌, ◌-◌, ◌≤◌}
use lib.ListN.{length}
use Rattle.workspace.specs.Readings.{Written}
use Rattle.certain.specs.Bound.{keeps}
use Rattle.day_volumes.specs.Found.{flag}
use Rattle.day_volumes.proofs.tables.put_kept.Given as goal

abbrev pub invariant-loop-j : goal.invariant-loop-j
invariant-loop-j l = (l.j ≤ l.q) × (length l.out ≡ length l.initial.out) × Written 0 32 l.j (λ k. flag (keeps l.day.n (l.day.p - l.q + k) l.day.limits.now l.day.least.now l.x l.tolerance)) l.initial.out l.out

abbrev pub decreases-loop-j : goal.decreases-loop-j
decreases-loop-j l = l.q - l.j
