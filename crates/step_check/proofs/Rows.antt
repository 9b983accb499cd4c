-- The margins of constraints, as the code takes them from its slices.
use mathlib.Core.Path.{◌≡◌, ap, ◌∙◌}
use mathlib.Core.List.{List}
use Prim.Native.Nat.{ℕ, ◌+◌, ◌*◌}
use native.Mathlib.Omega.{arith}
use lib.Ieee.{Float, neg}
use Rattle.numbers.specs.Numbers.{Σ, at, ◌⊕◌, ◌⊖◌, ◌⊗◌}
use Rattle.numbers.proofs.Sums.{Σ-same}
use Rattle.step_check.specs.Check.{value_at, ceiling_at}
use Rattle.step_check.proofs.Sloping.{same-product}

pub value-is : (n j : ℕ) (a c d : List Float) (s : Float) → s ≡ Σ n (λ k. at a (j * n + k * 1) ⊗ at d (0 + k * 1)) → s ⊕ at c j ≡ value_at n a c d j
unfolding value_at
value-is n j a c d s e = ap (λ (x : Float). x ⊕ at c j) (e ∙ Σ-same n _ _ (λ k h. same-product a d _ _ _ _ (omega arith) (omega arith)))

pub ceiling-is : (n j : ℕ) (a c d : List Float) (w s : Float) → s ≡ Σ n (λ k. neg (at a (j * n + k)) ⊗ at d k) → s ⊕ (w ⊖ at c j) ≡ ceiling_at n a c d w j
unfolding ceiling_at
ceiling-is n j a c d w s e = ap (λ (x : Float). x ⊕ (w ⊖ at c j)) e
