-- `penalties_into`: after j turns j penalties are written, and what is read is as it was.
use mathlib.Core.Path.{◌≡◌}
use Prim.Native.Nat.{◌+◌, ◌-◌, ◌≤◌}
use lib.ListN.{length}
use Rattle.numbers.specs.Numbers.{at, ◌⊕◌, ◌⊘◌}
use Rattle.workspace.specs.Readings.{Block}
use Rattle.search.specs.Turn.{magnitude, larger, two}
use Rattle.search_turn.proofs.penalties_into.Given as goal

abbrev pub invariant-loop-j : goal.invariant-loop-j
invariant-loop-j l = (l.j ≤ l.m) × (length l.f ≡ length l.initial.f) × Block 80 l.j (λ k. larger (magnitude (at l.initial.f (96 + k))) ((at l.initial.f (80 + k) ⊕ magnitude (at l.initial.f (96 + k))) ⊘ two)) l.initial.f l.f

abbrev pub decreases-loop-j : goal.decreases-loop-j
decreases-loop-j l = l.m - l.j
