-- The lowest meter that is not sound is the one told.
use mathlib.Core.Path.{◌≡◌, refl, subst}
use mathlib.Core.Bool.{Bool, true, false, ◌&&◌}
use mathlib.Core.List.{List}
use mathlib.Core.Logic.{⊎_elim}
use Prim.Native.Nat.{ℕ, zero, suc, ◌+◌, ◌<◌}
use native.Mathlib.Omega.{arith}
use lib.Ieee.{Float}
use Rattle.numbers.specs.Numbers.{at, nth}
use Rattle.numbers.proofs.Cases.{last-or-before}
use Rattle.workspace.specs.Tables.{Answer, test}
use Rattle.workspace.specs.declared.Refusal.TheVariants.{Reading, Spread}
use Rattle.reconcile_call.specs.Promise.{is_reading, is_spread, meters}
use Rattle.reconcile_call.specs.Claims.{Sound, Lowest, all_sound, wrong_reading, wrong_spread, LowestFirst}

module _ {A : Type 0} (b a : List ℕ) (s : List Float) (x : Answer A) where
  -- n meters from meter i on, where those before are sound
  from : (n i : ℕ) → ((j : ℕ) → j < i → Sound b a s j) → Lowest b a s (i + n) x (meters b a s n i x)
  unfolding meters
  from zero i h = all_sound (λ j l. h j (omega arith)) refl
  from (suc n) i h = go (is_reading (nth b i) && is_reading (nth a i)) (is_spread (at s i)) refl refl (λ p. from n (suc i) (λ j l. ⊎_elim (λ (e : j ≡ i). rw e p) (λ (e : j < i). h j e) (last-or-before i j l)))
    where
      go : (p q : Bool) → (is_reading (nth b i) && is_reading (nth a i)) ≡ p → is_spread (at s i) ≡ q → (Sound b a s i → Lowest b a s (suc i + n) x (meters b a s n (suc i) x))
          → Lowest b a s (i + suc n) x (test p (Reading i) (test q (Spread i) (meters b a s n (suc i) x)))
      go true true hp hq r = let k : suc i + n ≡ i + suc n = omega arith in subst (λ (t : ℕ). Lowest b a s t x (meters b a s n (suc i) x)) k (r (hp, hq))
      go true false hp hq r = wrong_spread i (omega arith) h hp hq refl
      go false q hp hq r = wrong_reading i (omega arith) h hp refl

pub lowest-first : LowestFirst
lowest-first A b a s n x = let k : 0 + n ≡ n = omega arith in subst (λ (t : ℕ). Lowest b a s t x (meters b a s n 0 x)) k (from b a s x n 0 (λ j l. absurd (omega arith)))
