-- `curved_at`: after k turns t is the sum of the first k products.
use mathlib.Core.Path.{◌≡◌}
use Prim.Native.Nat.{◌+◌, ◌-◌, ◌≤◌}
use Rattle.numbers.specs.Numbers.{Σ, entry, ◌⊗◌}
use Rattle.step_check.specs.Check.{halfway}
use Rattle.step_check.proofs.slopes.curved_at.Given as goal

abbrev pub invariant-loop-k : goal.invariant-loop-k
invariant-loop-k l = (l.k ≤ l.i + 1) × (l.t ≡ Σ l.k (λ k'. entry l.n l.factor l.i k' ⊗ halfway l.n l.factor l.d k'))

abbrev pub decreases-loop-k : goal.decreases-loop-k
decreases-loop-k l = l.i + 1 - l.k
