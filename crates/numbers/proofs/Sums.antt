-- Laws of `Σ`: what a loop that sums needs, and sums of equal terms.
use mathlib.Core.Path.{◌≡◌, refl, sym, ap, ◌∙◌}
use Prim.Native.Nat.{ℕ, zero, suc, ◌+◌, ◌≤◌, ◌<◌}
use native.Mathlib.Nat.{le_antisymm}
use native.Mathlib.Numerals.{add-one}
use native.Mathlib.Omega.{arith}
use lib.Ieee.{Float, of_bits, neg}
use lib.Ieee.{binary64}
use Rattle.numbers.specs.Numbers.{Σ, ◌⊕◌}

-- where a loop starts: `-0.0` as the program writes it
pub Σ-none : (f : ℕ → Float) → neg (of_bits binary64 0) ≡ Σ 0 f
unfolding Σ of_bits neg
Σ-none f = refl

-- the code's `n + 1` is `suc n`
pub Σ-suc : (n : ℕ) (f : ℕ → Float) → Σ (n + 1) f ≡ Σ n f ⊕ f n
unfolding Σ
Σ-suc n f = rw add-one

-- one turn
pub Σ-more : (i : ℕ) (f : ℕ → Float) (acc : Float) → acc ≡ Σ i f → acc ⊕ f i ≡ Σ (i + 1) f
Σ-more i f acc e = ap (λ (a : Float). a ⊕ f i) e ∙ sym (Σ-suc i f)

-- the end: i is at most n by the invariant, and at least n by the test that failed
pub Σ-done : (i n : ℕ) (f : ℕ → Float) (acc : Float) → i ≤ n → n ≤ i → acc ≡ Σ i f → acc ≡ Σ n f
Σ-done i n f acc h k e = e ∙ ap (λ (m : ℕ). Σ m f) (le_antisymm h k)

pub Σ-same : (n : ℕ) (f g : ℕ → Float) → ((i : ℕ) → i < n → f i ≡ g i) → Σ n f ≡ Σ n g
unfolding Σ
Σ-same zero f g h = refl
Σ-same (suc n) f g h = rw (Σ-same n f g (λ i l. h i (omega arith)), h n (omega arith))
