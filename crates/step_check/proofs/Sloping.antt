-- The sums of the slope, as the code takes them from its slices.
use mathlib.Core.Path.{◌≡◌}
use mathlib.Core.List.{List}
use Prim.Native.Nat.{ℕ, ◌+◌, ◌*◌, ◌-◌, ◌≤◌, ◌<◌}
use native.Mathlib.Nat.{mul-le-mul_right}
use native.Mathlib.Omega.{arith}
use lib.Ieee.{Float}
use Rattle.numbers.specs.Numbers.{Σ, at, ◌⊗◌}
use Rattle.numbers.proofs.Sums.{Σ-same}
use Rattle.step_check.specs.Check.{halfway, terms}

-- two entries at equal places
pub same-product : (a b : List Float) (p p' q q' : ℕ) → p ≡ p' → q ≡ q' → at a p ⊗ at b q ≡ at a p' ⊗ at b q'
same-product a b p p' q q' e h = rw (e, h)

pub halfway-is : (n k : ℕ) (l d : List Float) → Σ (n - k) (λ t. at l (k * n + k + t * n) ⊗ at d (k + t * 1)) ≡ halfway n l d k
unfolding halfway
halfway-is n k l d = Σ-same (n - k) _ _ (λ t h. same-product l d _ _ _ _ (omega arith) (omega arith))

pub terms-are : (n m i : ℕ) (a l : List Float) → Σ m (λ j. at a (i + j * n) ⊗ at l (0 + j * 1)) ≡ terms n m a l i
unfolding terms
terms-are n m i a l = Σ-same m _ _ (λ j h. same-product a l _ _ _ _ (omega arith) (omega arith))

-- row k + t of the square lies in it
pub below-fits : (n k t : ℕ) → k < n → t < n - k → k * n + k + t * n < n * n
below-fits n k t h l = let p : (k + t + 1) * n ≤ n * n = mul-le-mul_right n (omega arith) in omega (arith, p)
