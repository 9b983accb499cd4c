-- `kinds_of`: after j turns j kinds are written.
use mathlib.Core.Path.{◌≡◌}
use Prim.Native.Nat.{◌+◌, ◌-◌, ◌≤◌}
use lib.ListN.{length}
use Rattle.numbers.specs.Numbers.{nth}
use Rattle.workspace.specs.Readings.{Written}
use Rattle.search_open.proofs.kinds_of.Given as goal

abbrev pub invariant-loop-j : goal.invariant-loop-j
invariant-loop-j l = (l.j ≤ l.m) × (length l.kinds ≡ length l.initial.kinds) × Written 0 0 l.j (λ k. nth l.u (16 + k)) l.initial.kinds l.kinds

abbrev pub decreases-loop-j : goal.decreases-loop-j
decreases-loop-j l = l.m - l.j
