-- `sum` meets its contract. The loop's invariant: `total` is the sum of the entries so far.
use mathlib.Core.Path.{◌≡◌}
use Rattle.numbers.specs.Numbers.{Σ, at}
use Rattle.numbers.proofs.sum.Given as goal

abbrev pub invariant-loop-x : goal.invariant-loop-x
invariant-loop-x l = l.total ≡ Σ l.x-index (λ k. at l.xs k)
