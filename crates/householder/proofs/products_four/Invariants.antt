-- `products_four`: after t turns each sum has t terms.
use mathlib.Core.Path.{◌≡◌}
use Prim.Native.Nat.{◌+◌, ◌*◌, ◌-◌, ◌≤◌}
use Rattle.numbers.specs.Numbers.{Σ, ◌⊗◌, at}
use Rattle.householder.proofs.products_four.Given as goal

abbrev pub invariant-loop-t : goal.invariant-loop-t
invariant-loop-t l = (l.t ≤ l.n) × (l.a ≡ Σ l.t (λ i. at l.w (l.p + i) ⊗ at l.w (l.q + i))) × (l.b ≡ Σ l.t (λ i. at l.w (l.p + l.s + i) ⊗ at l.w (l.q + 18 + i))) × (l.c ≡ Σ l.t (λ i. at l.w (l.p + l.s * 2 + i) ⊗ at l.w (l.q + 36 + i))) × (l.d ≡ Σ l.t (λ i. at l.w (l.p + l.s * 3 + i) ⊗ at l.w (l.q + 54 + i)))

abbrev pub decreases-loop-t : goal.decreases-loop-t
decreases-loop-t l = l.n - l.t
