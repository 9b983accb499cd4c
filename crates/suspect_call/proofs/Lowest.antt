-- The lowest meter that is not sound is the one told.
use mathlib.Core.Path.{◌≡◌, refl, subst}
use mathlib.Core.Bool.{Bool, true, false}
use mathlib.Core.List.{List}
use mathlib.Core.Logic.{⊎_elim}
use Prim.Native.Nat.{ℕ, zero, suc, ◌+◌, ◌<◌}
use native.Mathlib.Omega.{arith}
use lib.Ieee.{Float}
use Rattle.numbers.specs.Numbers.{at}
use Rattle.numbers.proofs.Cases.{last-or-before}
use Rattle.workspace.specs.Tables.{Answer, test}
use Rattle.workspace.specs.declared.Refusal.TheVariants.{Reading, Spread}
use Rattle.reconcile_call.specs.Promise.{is_spread}
use Rattle.suspect.specs.Suspect.{is_finite}
use Rattle.suspect_call.specs.Promise.{meters}
use Rattle.suspect_call.specs.Claims.{Sound, Lowest, all_sound, wrong_value, wrong_spread, LowestFirst}

module _ {A : Type 0} (v s : List Float) (x : Answer A) where
  -- n meters from meter i on, where those before are sound
  from : (n i : ℕ) → ((j : ℕ) → j < i → Sound v s j) → Lowest v s (i + n) x (meters v s n i x)
  unfolding meters
  from zero i h = all_sound (λ j l. h j (omega arith)) refl
  from (suc n) i h = go (is_finite (at v i)) (is_spread (at s i)) refl refl (λ p. from n (suc i) (λ j l. ⊎_elim (λ (e : j ≡ i). rw e p) (λ (e : j < i). h j e) (last-or-before i j l)))
    where
      go : (p q : Bool) → is_finite (at v i) ≡ p → is_spread (at s i) ≡ q → (Sound v s i → Lowest v s (suc i + n) x (meters v s n (suc i) x))
          → Lowest v s (i + suc n) x (test p (Reading i) (test q (Spread i) (meters v s n (suc i) x)))
      go true true hp hq r = let k : suc i + n ≡ i + suc n = omega arith in subst (λ (t : ℕ). Lowest v s t x (meters v s n (suc i) x)) k (r (hp, hq))
      go true false hp hq r = wrong_spread i (omega arith) h hp hq refl
      go false q hp hq r = wrong_value i (omega arith) h hp refl

pub lowest-first : LowestFirst
lowest-first A v s n x = let k : 0 + n ≡ n = omega arith in subst (λ (t : ℕ). Lowest v s t x (meters v s n 0 x)) k (from v s x n 0 (λ j l. absurd (omega arith)))
