-- Laws of the tests of meters: one meter, the next, and what they come to before whatever follows.
use mathlib.Core.Path.{◌≡◌, refl, sym, ap, ◌∙◌}
use mathlib.Core.Bool.{Bool, true, false, ◌&&◌}
use mathlib.Core.List.{List}
use Prim.Native.Nat.{ℕ, zero, suc, ◌+◌, ◌-◌, ◌<◌, ◌≤◌}
use native.Mathlib.Omega.{arith}
use lib.Ieee.{Float, inf, binary64, of_bits, div, lt}
use borrow.Author.Tests.{leb-true}
use Rattle.numbers.specs.Numbers.{+0, at, nth}
use Rattle.workspace.specs.Tables.{Answer, done, refused, test, outcome_of, is_late}
use Rattle.workspace.specs.declared.Refusal.{Refusal}
use Rattle.workspace.specs.declared.Refusal.TheVariants.{Reading, Spread}
use Rattle.workspace.specs.Tables.{Outcome}
use Rattle.std.specs.Prelude.{Ok, Err}
use Rattle.workspace.proofs.Readings.{lit-+0}
use Rattle.workspace.proofs.Tests.{and-true}
use Rattle.totaliser.specs.Volume.{largest}
use Rattle.reconcile_call.specs.Promise.{is_reading, is_spread, meter, meters}
use Rattle.reconcile_call.specs.inner.Work.{tested_outcome}

-- ---- a spread

infinite : div binary64 (of_bits binary64 0x3ff0_0000_0000_0000) (of_bits binary64 0) ≡ inf false
unfolding div of_bits
infinite = refl

pub spread-above : (s : Float) → lt (of_bits binary64 0) s ≡ true → lt s (div binary64 (of_bits binary64 0x3ff0_0000_0000_0000) (of_bits binary64 0)) ≡ is_spread s
spread-above s h = let e : lt +0 s ≡ true = ap (λ (z : Float). lt z s) (sym lit-+0) ∙ h in rw (e, infinite) refl

pub spread-not : (s : Float) → lt (of_bits binary64 0) s ≡ false → lt (of_bits binary64 0) s ≡ is_spread s
spread-not s h = let e : lt +0 s ≡ false = ap (λ (z : Float). lt z s) (sym lit-+0) ∙ h in h ∙ rw e refl

-- ---- one meter

pub never : {A : Type 0} (r : Refusal) → ◌≡◌ {A = Outcome} (Err r) (Ok tt) → A
never r e = absurd (let y : ⊥ = cc in y)

-- its tests pass, and what follows answers
pub passes : {A : Type 0} (p q : Bool) (r s : Refusal) (a : Answer A) → outcome_of {A = Unit} (test p r (test q s (done tt))) ≡ Ok tt → (p ≡ true) × (q ≡ true) × (test p r (test q s a) ≡ a)
passes true true r s a e = (refl, refl, refl)
passes true false r s a e = never s e
passes false q r s a e = never r e

-- one of them fails, and nothing that follows counts
pub stops : {A : Type 0} (p q : Bool) (r s k : Refusal) (a : Answer A) → outcome_of {A = Unit} (test p r (test q s (done tt))) ≡ Err k → test p r (test q s a) ≡ refused k
stops true true r s k a e = never k (sym e)
stops true false r s k a e = ap refused (told e)
  where
    told : ◌≡◌ {A = Outcome} (Err s) (Err k) → s ≡ k
    told h = cc
stops false q r s k a e = ap refused (told e)
  where
    told : ◌≡◌ {A = Outcome} (Err r) (Err k) → r ≡ k
    told h = cc

-- ---- meter after meter

module _ (b a : List ℕ) (s : List Float) where
  pub tested-none : (n : ℕ) → tested_outcome b a s n 0 ≡ tested_outcome b a s (n - 0) 0
  tested-none n = let k : n ≡ n - 0 = omega arith in ap (λ (x : ℕ). tested_outcome b a s x 0) k

  -- a meter that passes leaves what is still to test
  pub tested-on : (n i : ℕ) → i < n → outcome_of (meter {A = Unit} b a s i (done tt)) ≡ Ok tt → tested_outcome b a s (n - i) i ≡ tested_outcome b a s (n - (i + 1)) (i + 1)
  unfolding meters
  tested-on n i h e =
      let k : n - i ≡ suc (n - (i + 1)) = omega arith in
      let j : suc i ≡ i + 1 = omega arith in
      rw k
      (ap outcome_of (passes (is_reading (nth b i) && is_reading (nth a i)) (is_spread (at s i)) (Reading i) (Spread i) (meters {A = Unit} b a s (n - (i + 1)) (suc i) (done tt)) e).2
      ∙ ap (λ (x : ℕ). tested_outcome b a s (n - (i + 1)) x) j)

  -- one that does not ends it
  pub tested-out : (n i : ℕ) (k : Refusal) → i < n → outcome_of (meter {A = Unit} b a s i (done tt)) ≡ Err k → tested_outcome b a s (n - i) i ≡ Err k
  unfolding meters
  tested-out n i k h e =
      let l : n - i ≡ suc (n - (i + 1)) = omega arith in
      rw l (ap outcome_of (stops (is_reading (nth b i) && is_reading (nth a i)) (is_spread (at s i)) (Reading i) (Spread i) k (meters {A = Unit} b a s (n - (i + 1)) (suc i) (done tt)) e))

  pub tested-all : (n i : ℕ) → n ≤ i → tested_outcome b a s (n - i) i ≡ Ok tt
  unfolding meters
  tested-all n i h = let k : n - i ≡ 0 = omega arith in rw k refl

-- ---- what the tests come to, before whatever follows

-- the first meter of several
pub first_passes : (p q : Bool) (r s : Refusal) (rest : Answer Unit) → outcome_of (test p r (test q s rest)) ≡ Ok tt → (p ≡ true) × (q ≡ true) × (outcome_of rest ≡ Ok tt)
first_passes true true r s rest e = (refl, refl, e)
first_passes true false r s rest e = never s e
first_passes false q r s rest e = never r e

same-refusal : (r k : Refusal) → ◌≡◌ {A = Outcome} (Err r) (Err k) → r ≡ k
same-refusal r k e = cc

pub first_stops : {A : Type 0} (p q : Bool) (r s k : Refusal) (rest : Answer Unit) (x : Answer A) → is_late r ≡ false → is_late s ≡ false → (outcome_of rest ≡ Err k → (x ≡ refused k) × (is_late k ≡ false))
    → outcome_of (test p r (test q s rest)) ≡ Err k → (test p r (test q s x) ≡ refused k) × (is_late k ≡ false)
first_stops true true r s k rest x lr ls h e = h e
first_stops true false r s k rest x lr ls h e = let z = same-refusal s k e in (ap refused z, ap is_late (sym z) ∙ ls)
first_stops false q r s k rest x lr ls h e = let z = same-refusal r k e in (ap refused z, ap is_late (sym z) ∙ lr)

module _ (b a : List ℕ) (s : List Float) where
  pub all_pass : {A : Type 0} (n i : ℕ) (x : Answer A) → tested_outcome b a s n i ≡ Ok tt → meters b a s n i x ≡ x
  unfolding meters
  all_pass zero i x e = refl
  all_pass (suc n) i x e =
      let h = first_passes (is_reading (nth b i) && is_reading (nth a i)) (is_spread (at s i)) (Reading i) (Spread i) (meters {A = Unit} b a s n (suc i) (done tt)) e in
      rw (h.0, h.1) (all_pass n (suc i) x h.2)

  -- the workspaces stay as they are
  pub all-stop : {A : Type 0} (n i : ℕ) (k : Refusal) (x : Answer A) → tested_outcome b a s n i ≡ Err k → (meters b a s n i x ≡ refused k) × (is_late k ≡ false)
  unfolding meters
  all-stop zero i k x e = never k (sym e)
  all-stop (suc n) i k x e =
      first_stops (is_reading (nth b i) && is_reading (nth a i)) (is_spread (at s i)) (Reading i) (Spread i) k (meters {A = Unit} b a s n (suc i) (done tt)) (meters b a s n (suc i) x) refl refl (all-stop n (suc i) k x) e

  all_read : (n i : ℕ) → tested_outcome b a s n i ≡ Ok tt → (j : ℕ) → j < n → (nth b (i + j) ≤ largest) × (nth a (i + j) ≤ largest)
  unfolding meters
  all_read zero i e j h = absurd (omega arith)
  all_read (suc n) i e zero h =
      let p = first_passes (is_reading (nth b i) && is_reading (nth a i)) (is_spread (at s i)) (Reading i) (Spread i) (meters {A = Unit} b a s n (suc i) (done tt)) e in
      let q = and-true (is_reading (nth b i)) (is_reading (nth a i)) p.0 in
      let k : i + 0 ≡ i = omega arith in
      rw k (leb-true (nth b i) largest q.0, leb-true (nth a i) largest q.1)
  all_read (suc n) i e (suc j) h =
      let p = first_passes (is_reading (nth b i) && is_reading (nth a i)) (is_spread (at s i)) (Reading i) (Spread i) (meters {A = Unit} b a s n (suc i) (done tt)) e in
      let k : i + suc j ≡ suc i + j = omega arith in
      rw k (all_read n (suc i) p.2 j (omega arith))

  -- every reading is one of a totaliser
  pub readings : (n : ℕ) → tested_outcome b a s n 0 ≡ Ok tt → (j : ℕ) → j < n → (nth b j ≤ largest) × (nth a j ≤ largest)
  readings n e j h = let k : j ≡ 0 + j = omega arith in rw k (all_read n 0 e j h)
