-- The strict step's test of bounds: one variable, the next, and what they come to before whatever follows.
use mathlib.Core.Path.{◌≡◌, refl, sym, ap, ◌∙◌}
use mathlib.Core.Bool.{Bool, true, false, ◌&&◌}
use mathlib.Core.List.{List}
use Prim.Native.Nat.{ℕ, zero, suc, ◌+◌, ◌-◌, ◌<◌, ◌≤◌}
use native.Mathlib.Omega.{arith}
use lib.Ieee.{Float, nan, inf, fin, binary64, of_bits, div, neg, lt}
use Rattle.workspace.specs.Tables.{Answer, done, refused, test, outcome_of, is_late}
use Rattle.workspace.specs.declared.Refusal.{Refusal}
use Rattle.workspace.specs.declared.Refusal.TheVariants.{Bound}
use Rattle.workspace.specs.Tables.{Outcome}
use Rattle.std.specs.Prelude.{Ok, Err}
use Rattle.step_call.specs.Strict.{is_lower, is_upper, is_bounded, bounds}
use Rattle.step_call.specs.inner.Work.{bounds_outcome}
use Rattle.step_call.proofs.Widths.{above, lit-infinity}

-- ---- one variable

-- -infinity, as the code writes it
abbrev below : Float
below = div binary64 (neg (of_bits binary64 0x3ff0_0000_0000_0000)) (of_bits binary64 0)

lit-below : below ≡ inf true
unfolding div of_bits neg
lit-below = refl

less-lower : (b : Float) → lt b (inf false) ≡ is_lower b
unfolding lt
less-lower nan = refl
less-lower (inf true) = refl
less-lower (inf false) = refl
less-lower (fin s m e) = refl

less-upper : (b : Float) → lt (inf true) b ≡ is_upper b
unfolding lt
less-upper nan = refl
less-upper (inf true) = refl
less-upper (inf false) = refl
less-upper (fin s m e) = refl

pub lower-is : (l u : Float) → lt l above ≡ true → lt below u ≡ (is_lower l && is_upper u)
lower-is l u h = let e : is_lower l ≡ true = sym (less-lower l) ∙ ap (lt l) (sym lit-infinity) ∙ h in rw (e, lit-below) (less-upper u)

pub lower-not : (l u : Float) → lt l above ≡ false → false ≡ (is_lower l && is_upper u)
lower-not l u h = let e : is_lower l ≡ false = sym (less-lower l) ∙ ap (lt l) (sym lit-infinity) ∙ h in rw e

-- ---- variable after variable

module _ (l u : List Float) where
  pub tested-none : (n : ℕ) → bounds_outcome l u n 0 ≡ bounds_outcome l u (n - 0) 0
  tested-none n = let k : n ≡ n - 0 = omega arith in ap (λ (x : ℕ). bounds_outcome l u x 0) k

  pub tested-on : (n i : ℕ) → i < n → is_bounded l u i ≡ true → bounds_outcome l u (n - i) i ≡ bounds_outcome l u (n - (i + 1)) (i + 1)
  unfolding bounds
  tested-on n i h e =
      let k : n - i ≡ suc (n - (i + 1)) = omega arith in
      let j : suc i ≡ i + 1 = omega arith in
      rw (k, e) (ap (λ (x : ℕ). bounds_outcome l u (n - (i + 1)) x) j)

  pub tested-out : (n i : ℕ) → i < n → is_bounded l u i ≡ false → bounds_outcome l u (n - i) i ≡ Err (Bound i)
  unfolding bounds
  tested-out n i h e = let k : n - i ≡ suc (n - (i + 1)) = omega arith in rw (k, e)

  pub tested-all : (n i : ℕ) → n ≤ i → bounds_outcome l u (n - i) i ≡ Ok tt
  unfolding bounds
  tested-all n i h = let k : n - i ≡ 0 = omega arith in rw k refl

-- ---- what the tests come to, before whatever follows

never : {A : Type 0} (r : Refusal) → ◌≡◌ {A = Outcome} (Err r) (Ok tt) → A
never r e = absurd (let y : ⊥ = cc in y)

first_passes : {A : Type 0} (b : Bool) (r : Refusal) (rest : Answer Unit) (x y : Answer A) → (outcome_of rest ≡ Ok tt → x ≡ y) → outcome_of (test b r rest) ≡ Ok tt → test b r x ≡ y
first_passes true r rest x y h e = h e
first_passes false r rest x y h e = never r e

first_stops : {A : Type 0} (b : Bool) (r k : Refusal) (rest : Answer Unit) (x : Answer A) → is_late r ≡ false → (outcome_of rest ≡ Err k → (x ≡ refused k) × (is_late k ≡ false))
    → outcome_of (test b r rest) ≡ Err k → (test b r x ≡ refused k) × (is_late k ≡ false)
first_stops true r k rest x l h e = h e
first_stops false r k rest x l h e = (ap refused (told e), ap is_late (sym (told e)) ∙ l)
  where
    told : ◌≡◌ {A = Outcome} (Err r) (Err k) → r ≡ k
    told h = cc

module _ {A : Type 0} (l u : List Float) (x : Answer A) where
  pub all_pass : (n i : ℕ) → bounds_outcome l u n i ≡ Ok tt → bounds l u n i x ≡ x
  unfolding bounds
  all_pass zero i e = refl
  all_pass (suc n) i e = first_passes (is_bounded l u i) (Bound i) (bounds {A = Unit} l u n (suc i) (done tt)) (bounds l u n (suc i) x) x (all_pass n (suc i)) e

  pub all-stop : (n i : ℕ) (k : Refusal) → bounds_outcome l u n i ≡ Err k → (bounds l u n i x ≡ refused k) × (is_late k ≡ false)
  unfolding bounds
  all-stop zero i k e = never k (sym e)
  all-stop (suc n) i k e = first_stops (is_bounded l u i) (Bound i) k (bounds {A = Unit} l u n (suc i) (done tt)) (bounds l u n (suc i) x) refl (all-stop n (suc i) k) e
