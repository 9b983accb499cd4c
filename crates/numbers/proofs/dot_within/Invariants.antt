-- `dot_within`: after k turns t is the sum of the first k products.
use mathlib.Core.Path.{◌≡◌}
use Prim.Native.Nat.{◌+◌}
use Rattle.numbers.specs.Numbers.{Σ, at, ◌⊗◌}
use Rattle.numbers.proofs.dot_within.Given as goal

abbrev pub invariant-loop-k : goal.invariant-loop-k
invariant-loop-k l = l.t ≡ Σ l.k (λ i. at l.l (l.p + i) ⊗ at l.l (l.q + i))
