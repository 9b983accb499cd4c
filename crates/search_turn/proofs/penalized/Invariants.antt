-- `penalized`: after j turns the first j terms are summed.
use mathlib.Core.Path.{◌≡◌}
use Prim.Native.Nat.{◌+◌, ◌-◌, ◌≤◌}
use lib.Dec.{eqb}
use Rattle.numbers.specs.Numbers.{at, nth, Σ, ◌⊗◌}
use Rattle.search.specs.Turn.{violation}
use Rattle.search_turn.proofs.penalized.Given as goal

abbrev pub invariant-loop-j : goal.invariant-loop-j
invariant-loop-j l = (l.j ≤ l.m) × (l.total ≡ Σ l.j (λ k. at l.f (80 + k) ⊗ violation (eqb (nth l.u (16 + k)) 0) (at l.v (1 + k))))

abbrev pub decreases-loop-j : goal.decreases-loop-j
decreases-loop-j l = l.m - l.j
