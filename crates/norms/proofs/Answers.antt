-- The ways out of `norm`: what the largest pattern says.
use mathlib.Core.Path.{◌≡◌, refl, sym, ap, ap₂, ◌∙◌, subst}
use mathlib.Core.List.{List}
use Prim.Native.Nat.{ℕ, suc, ◌^◌, ◌≤◌, ◌<◌}
use native.Mathlib.Nat.{le_trans, le_of_eq, lt_of_lt_of_le, lt_of_le_of_lt, zero-lt-suc}
use native.Mathlib.Omega.{arith}
use mathlib.Core.Bool.{Bool, true, false, cond, ◌||◌}
use lib.Dec.{T, ltb, leb, eqb, ltb→lt, lt→ltb, leb→le, le→leb, not_T, eqb→eq}
use lib.ListN.{length}
use lib.Ieee.{Float, nan, inf, binary64, size, of_bits, of_fields, odd, div}
use lib.Ieee.Bits.{is_true, is_false}
use lib.Ieee.Digits.{size-lt}
use Rattle.numbers.specs.Numbers.{+0, at}
use Rattle.norms.specs.Norm.{has_nan, has_inf, magnitude, largest, rescaled, norm}
use Rattle.norms.specs.inner.Patterns.{units_of, LargestPattern}
use Rattle.norms.proofs.Scaled.{below-largest}
use Rattle.norms.proofs.Patterns.{units_mono}

pub lit-0 : of_bits binary64 0 ≡ +0
unfolding of_bits of_fields odd
lit-0 = refl

-- 0.0 / 0.0 and 1.0 / 0.0
zero_by_zero : div binary64 (of_bits binary64 0) (of_bits binary64 0) ≡ nan
unfolding div of_bits
zero_by_zero = refl

one-by-zero : div binary64 (of_bits binary64 4607182418800017408) (of_bits binary64 0) ≡ inf false
unfolding div of_bits
one-by-zero = refl

pub no_less : (a b : ℕ) → b ≤ a → ltb a b ≡ false
no_less a b h = is_false (ltb a b) (not_T (ltb a b) (λ (u : T (ltb a b)). clash a b h (ltb→lt a b u)))
  where
    clash : (a b : ℕ) → b ≤ a → a < b → ⊥
    clash a b h l = omega arith

no-reach : (a b : ℕ) → b < a → leb a b ≡ false
no-reach a b h = is_false (leb a b) (not_T (leb a b) (λ (u : T (leb a b)). clash a b h (leb→le a b u)))
  where
    clash : (a b : ℕ) → b < a → a ≤ b → ⊥
    clash a b h l = omega arith

pub no_zero : (a : ℕ) → 0 < a → eqb a 0 ≡ false
no_zero a h = is_false (eqb a 0) (not_T (eqb a 0) (λ (u : T (eqb a 0)). clash a h (eqb→eq a 0 u)))
  where
    clash : (a : ℕ) → 0 < a → a ≡ 0 → ⊥
    clash a h e = omega arith

-- the norm by its four tests
abbrev Way : Bool → Bool → ℕ → List Float → Float
Way p q most v = cond p nan (cond q (inf false) (cond (eqb most 0) +0 (rescaled (size most) v)))

norm-is : (v : List Float) → norm v ≡ Way (has_nan (length v) v) (has_inf (length v) v) (largest (length v) v) v
unfolding norm
norm-is v = refl

module _ (v : List Float) (b : ℕ) (t : LargestPattern (length v) v b) where
  pub norm-nan : 9218868437227405312 < b → div binary64 (of_bits binary64 0) (of_bits binary64 0) ≡ norm v
  norm-nan h = zero_by_zero ∙ sym (norm-is v ∙ ap (λ (p : Bool). Way p (has_inf (length v) v) (largest (length v) v) v) (t.number ∙ is_true (ltb 9218868437227405312 b) (lt→ltb 9218868437227405312 b h)))

  no_nan : b ≤ 9218868437227405312 → has_nan (length v) v ≡ false
  no_nan h = t.number ∙ no_less 9218868437227405312 b h

  pub norm-inf : b ≡ 9218868437227405312 → div binary64 (of_bits binary64 4607182418800017408) (of_bits binary64 0) ≡ norm v
  norm-inf e =
      let n = no_nan (le_of_eq e) in
      let i : has_inf (length v) v ≡ true = ap (λ (p : Bool). p || has_inf (length v) v) (sym n) ∙ t.infinite ∙ is_true (leb 9218868437227405312 b) (le→leb 9218868437227405312 b (le_of_eq (sym e))) in
      one-by-zero ∙ sym (norm-is v ∙ ap₂ (λ (p q : Bool). Way p q (largest (length v) v) v) n i)

  no-inf : b < 9218868437227405312 → has_inf (length v) v ≡ false
  no-inf h = ap (λ (p : Bool). p || has_inf (length v) v) (sym (no_nan (le_trans (step b) h))) ∙ t.infinite ∙ no-reach 9218868437227405312 b h
    where
      step : (b : ℕ) → b ≤ suc b
      step b = omega arith

  finite : b < 9218868437227405312 → norm v ≡ Way false false (units_of b) v
  finite h = norm-is v ∙ ap₂ (λ (p q : Bool). Way p q (largest (length v) v) v) (no_nan (le_trans (step b) h)) (no-inf h) ∙ ap (λ (n : ℕ). Way false false n v) (t.units h)
    where
      step : (b : ℕ) → b ≤ suc b
      step b = omega arith

  pub norm-zero : b ≡ 0 → of_bits binary64 0 ≡ norm v
  norm-zero e = lit-0 ∙ sym (finite (subst (λ (n : ℕ). n < 9218868437227405312) (sym e) (zero-lt-suc 9218868437227405311)) ∙ ap (λ (n : ℕ). Way false false (units_of n) v) e)

  pub norm-some : 0 < b → b < 9218868437227405312 → rescaled (size (units_of b)) v ≡ norm v
  norm-some p h = sym (finite h ∙ ap (λ (q : Bool). cond q +0 (rescaled (size (units_of b)) v)) (no_zero (units_of b) (lt_of_lt_of_le (zero-lt-suc 0) (units_mono 1 b p))))

  -- each entry is below 2 ^ z units
  pub below-size : b < 9218868437227405312 → (i : ℕ) → i < length v → magnitude (at v i) < 2 ^ size (units_of b)
  below-size h i l = lt_of_le_of_lt (le_trans (below-largest (length v) v i l) (le_of_eq (t.units h))) (size-lt (units_of b))
