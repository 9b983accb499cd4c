-- `complementarity_of`: after j turns the first j terms are summed.
use mathlib.Core.Path.{◌≡◌}
use Prim.Native.Nat.{◌+◌, ◌-◌, ◌≤◌}
use Rattle.numbers.specs.Numbers.{at, Σ, ◌⊗◌}
use Rattle.search.specs.Turn.{magnitude}
use Rattle.search_turn.proofs.complementarity_of.Given as goal

abbrev pub invariant-loop-j : goal.invariant-loop-j
invariant-loop-j l = (l.j ≤ l.m) × (l.total ≡ Σ l.j (λ k. magnitude (at l.multipliers k ⊗ at l.v (1 + k))))

abbrev pub decreases-loop-j : goal.decreases-loop-j
decreases-loop-j l = l.m - l.j
