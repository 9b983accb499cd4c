use mathlib.Core.Path.{◌≡◌}
use Prim.Native.Nat.{◌+◌, ◌-◌, ◌*◌, ◌≤◌}
use lib.ListN.{length}
use Rattle.workspace.specs.Readings.{Written}
use lib.Ieee.{nan}
use Rattle.day_volumes.specs.Found.{row_times}
use Rattle.day_volumes.proofs.tables.put_sums.Given as goal

abbrev pub invariant-loop-j : goal.invariant-loop-j
invariant-loop-j l = (l.j ≤ l.c) × (length l.out ≡ length l.initial.out) × Written nan l.o l.j (λ k. row_times l.n l.f (l.from + 16 * k) l.v) l.initial.out l.out

abbrev pub decreases-loop-j : goal.decreases-loop-j
decreases-loop-j l = l.c - l.j
