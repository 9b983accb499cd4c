-- `kinds_into`: after j turns j kinds are written.
use mathlib.Core.Path.{◌≡◌}
use Prim.Native.Nat.{◌-◌, ◌≤◌}
use lib.ListN.{length}
use Rattle.numbers.specs.Numbers.{nth}
use Rattle.workspace.specs.Readings.{Span}
use Rattle.search_call.proofs.begin.kinds_into.Given as goal

abbrev pub invariant-loop-j : goal.invariant-loop-j
invariant-loop-j l = (l.j ≤ l.m) × (length l.u ≡ length l.initial.u) × Span 16 l.j (λ k. nth l.kinds k) l.initial.u l.u

abbrev pub decreases-loop-j : goal.decreases-loop-j
decreases-loop-j l = l.m - l.j
