-- Laws of marks, and that they name exactly the volumes below zero and the NaNs.
use mathlib.Core.Path.{◌≡◌, refl, sym, ap, subst, ◌∙◌}
use mathlib.Core.Bool.{Bool, true, false, cond, ◌||◌, true≢false}
use mathlib.Core.Logic.{◌⊎◌, inl, inr, ⊎_elim}
use Prim.Native.Nat.{ℕ, ◌<◌}
use native.Mathlib.Omega.{arith}
use lib.Dec.{T}
use lib.Ieee.{Float, nan, inf, fin, binary64, of_bits, lt, ne, is_nan}
use lib.Ieee.Compare.{differs_from_itself, nan_differs}
use Rattle.numbers.specs.Numbers.{+0, at}
use Rattle.numbers.proofs.Lists.{get_d-tab}
use Rattle.workspace.proofs.Readings.{lit-+0}
use Rattle.reconcile.specs.Day.{is_named, mark, named}
use Rattle.reconcile.specs.Claims.{NamedIs, ElseNot}

-- ---- what the code decides

pub mark-below : (v : Float) → lt v (of_bits binary64 0) ≡ true → 1 ≡ mark v
mark-below v h = let e : lt v +0 ≡ true = ap (λ (z : Float). lt v z) (sym lit-+0) ∙ h in rw e refl

pub mark-nan : (v : Float) → ne v v ≡ true → 1 ≡ mark v
unfolding lt is_nan
mark-nan v h = rw (differs_from_itself v (subst T (sym h) tt)) refl

neither : (v : Float) → ne v v ≡ false → ◌≡◌ {A = ℕ} 0 (cond (false || is_nan v) 1 0)
unfolding is_nan
neither nan d = absurd (true≢false (sym nan_differs ∙ d))
neither (inf s) d = refl
neither (fin s m e) d = refl

pub mark-neither : (v : Float) → lt v (of_bits binary64 0) ≡ false → ne v v ≡ false → 0 ≡ mark v
mark-neither v h d = let e : lt v +0 ≡ false = ap (λ (z : Float). lt v z) (sym lit-+0) ∙ h in rw e (neither v d)

-- ---- the claims

is_one : (b : Bool) → ◌≡◌ {A = ℕ} (cond b 1 0) 1 → b ≡ true
is_one true e = refl
is_one false e = absurd (omega arith)

first : (b : Bool) → (b || false) ≡ true → b ≡ true
first true h = refl
first false h = h

below-or-nan : (v : Float) → is_named v ≡ true → (lt v +0 ≡ true) ⊎ (v ≡ nan)
unfolding is_nan
below-or-nan nan e = inr refl
below-or-nan (inf s) e = inl (first (lt (inf s) +0) e)
below-or-nan (fin s m k) e = inl (first (lt (fin s m k) +0) e)

or_left : (a b : Bool) → a ≡ true → (a || b) ≡ true
or_left true b h = refl
or_left false b h = absurd (true≢false (sym h))

named-nan : is_named nan ≡ true
unfolding lt is_nan
named-nan = refl

pub named-is : NamedIs
unfolding named
named-is n x i h =
    let e = get_d-tab {A = ℕ} n (λ i. mark (at x i)) 0 i h in (
      λ p. below-or-nan (at x i) (is_one (is_named (at x i)) (sym e ∙ p)),
      λ p. e ∙ ap {B = ℕ} (λ (b : Bool). cond b 1 0) (⊎_elim (λ (l : lt (at x i) +0 ≡ true). or_left (lt (at x i) +0) (is_nan (at x i)) l) (λ (l : at x i ≡ nan). ap is_named l ∙ named-nan) p),
    )

zero-or-one : (b : Bool) → (◌≡◌ {A = ℕ} (cond b 1 0) 0) ⊎ (◌≡◌ {A = ℕ} (cond b 1 0) 1)
zero-or-one true = inr refl
zero-or-one false = inl refl

pub else-not : ElseNot
unfolding named
else-not n x i h = let e = get_d-tab {A = ℕ} n (λ i. mark (at x i)) 0 i h in ⊎_elim (λ p. inl (e ∙ p)) (λ p. inr (e ∙ p)) (zero-or-one (is_named (at x i)))
