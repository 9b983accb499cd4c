-- `opposed`: after k turns t is the sum of the first k products.
use mathlib.Core.Path.{◌≡◌}
use Prim.Native.Nat.{◌+◌, ◌-◌, ◌≤◌}
use lib.Ieee.{neg}
use Rattle.numbers.specs.Numbers.{Σ, at, ◌⊗◌}
use Rattle.step_check.proofs.constraints.opposed.Given as goal

abbrev pub invariant-loop-k : goal.invariant-loop-k
invariant-loop-k l = (l.k ≤ l.n) × (l.t ≡ Σ l.k (λ i. neg (at l.a (l.p + i)) ⊗ at l.d i))

abbrev pub decreases-loop-k : goal.decreases-loop-k
decreases-loop-k l = l.n - l.k
