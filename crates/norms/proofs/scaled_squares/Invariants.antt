-- `scaled_squares` meets its contract.
use mathlib.Core.Path.{◌≡◌}
use Rattle.numbers.specs.Numbers.{Σ, at, ◌⊗◌}
use Rattle.norms.specs.Norm.{scaled}
use Rattle.norms.proofs.scaled_squares.Given as goal

abbrev pub invariant-loop-x : goal.invariant-loop-x
invariant-loop-x l = l.t ≡ Σ l.x-index (λ k. scaled 1075 l.z (at l.xs k) ⊗ scaled 1075 l.z (at l.xs k))
