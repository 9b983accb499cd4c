-- `sums_four`: after j turns each sum has j terms.
use mathlib.Core.Path.{◌≡◌}
use Prim.Native.Nat.{◌+◌, ◌*◌, ◌-◌, ◌≤◌}
use Rattle.numbers.specs.Numbers.{Σ, ◌⊗◌, at}
use Rattle.nnls.proofs.dual.sums_four.Given as goal

abbrev pub invariant-loop-j : goal.invariant-loop-j
invariant-loop-j l = (l.j ≤ l.n) × (l.a ≡ Σ l.j (λ t. at l.w (l.p + t * 18) ⊗ at l.w (l.q + t))) × (l.b ≡ Σ l.j (λ t. at l.w (l.p + 1 + t * 18) ⊗ at l.w (l.q + t))) × (l.c ≡ Σ l.j (λ t. at l.w (l.p + 2 + t * 18) ⊗ at l.w (l.q + t))) × (l.d ≡ Σ l.j (λ t. at l.w (l.p + 3 + t * 18) ⊗ at l.w (l.q + t)))

abbrev pub decreases-loop-j : goal.decreases-loop-j
decreases-loop-j l = l.n - l.j
