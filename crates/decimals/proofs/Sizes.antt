-- What number a bit pattern of binary64 stands for, with any sign, and the text of it. 4503599627370496 is 2 ^ 52, 9223372036854775808 is 2 ^ 63, the sign's bit,
-- and 9218868437227405312 is 2047 * 2 ^ 52, the infinity's pattern.
use mathlib.Core.Path.{◌≡◌, refl, sym, ap, ◌∙◌, subst}
use mathlib.Core.Logic.{⊎_elim}
use mathlib.Core.Bool.{Bool, true, false, not, ◌&&◌}
use mathlib.Core.List.{[], ◌∷◌, ◌++◌}
use Prim.Native.Nat.{ℕ, zero, suc, ◌+◌, ◌-◌, ◌*◌, ◌/◌, ◌%◌, ◌^◌, ◌≤◌, ◌<◌}
use native.Mathlib.Nat.{mul_assoc, mul_right_comm, mul-le-mul, mul-le-mul_right, mul-lt-mul_of_pos_right, lt_of_mul-lt-mul_right, le_of_mul-le-mul_right, lt_of_lt_of_le, lt_of_le_of_lt, le_trans, le_of_eq, mul-pos}
use native.Mathlib.Omega.{arith}
use borrow.Author.Tests.{lt-ltb, le-ltb, ne_eqb}
use lib.Dec.{T, leb, ltb, lit≤}
use lib.Pow.{pow_pos, pow_mono}
use lib.Ieee.{Float, nan, inf, fin, binary64, up, down, ne, is_nan, of_fields, of_bits}
use lib.Ieee.Compare.{differs_from_itself, nan_differs}
use lib.Ieee.Exact.{HasValue, odd_sign}
use lib.Ieee.Fits.{up_pos, down_pos}
use lib.Ieee.Nearest.{closest, closest_same}
use Rattle.io.specs.Digits.{last_digits as digits}
use Rattle.numbers.proofs.Cases.{lt-or-ge}
use Rattle.numbers.proofs.Patterns.{of_bits_is}
use Rattle.numbers.specs.Numbers.{tab}
use Rattle.ascii.specs.Text.{ascii, decimal_text}
use Rattle.decimals.specs.Decimal.{minus_text}
use Rattle.decimals.specs.Fixed.{thousandths, thousandths_text, signed_text, small_text, fixed_text}
use Rattle.decimals.specs.inner.Units.{units_of}

-- ---- the number of a pattern
pub units-low : (b : ℕ) → b / 4503599627370496 ≡ 0 → units_of b ≡ b % 4503599627370496 * 2 ^ 0
unfolding units_of
units-low b h = let l : b < 4503599627370496 = omega arith in rw (lt-ltb b 4503599627370496 l) (omega arith)

pub units-high : (b : ℕ) → 4503599627370496 ≤ b → units_of b ≡ (4503599627370496 + b % 4503599627370496) * 2 ^ (b / 4503599627370496 - 1)
unfolding units_of
units-high b h = rw (le-ltb b 4503599627370496 h)

fields-low : (s : Bool) (t : ℕ) → HasValue (of_fields binary64 s 0 t) s (t * 2 ^ 0) (2 ^ 1074)
unfolding of_fields
fields-low s t = odd_sign 53 s t 0 1074

fields-high : (s : Bool) (x t : ℕ) → suc x < 2047 → HasValue (of_fields binary64 s (suc x) t) s ((4503599627370496 + t) * 2 ^ x) (2 ^ 1074)
unfolding of_fields
fields-high s x t h = rw (ne_eqb (suc x) 2047 (λ (e : suc x ≡ 2047). omega arith)) (odd_sign 53 s (4503599627370496 + t) x 1074)

-- b is a pattern and c what is left of it without the sign
pub pattern : (b : ℕ) → b % 9223372036854775808 < 9218868437227405312
    → HasValue (of_bits binary64 b) (leb 9223372036854775808 b) (units_of (b % 9223372036854775808)) (2 ^ 1074)
pattern b h =
    let c = b % 9223372036854775808 in
    let t : b % 4503599627370496 ≡ c % 4503599627370496 = omega arith in
    ⊎_elim
    (λ (l : c < 4503599627370496). let z : c / 4503599627370496 ≡ 0 = omega arith in
    rw (of_bits_is b, z, t, units-low c z) (fields-low (leb 9223372036854775808 b) (c % 4503599627370496)))
    (λ (l : 4503599627370496 ≤ c). let x : c / 4503599627370496 ≡ suc (c / 4503599627370496 - 1) = omega arith in
    rw (of_bits_is b, t, units-high c l)
    (subst (λ (f : ℕ). HasValue (of_fields binary64 (leb 9223372036854775808 b) f (c % 4503599627370496)) (leb 9223372036854775808 b) ((4503599627370496 + c % 4503599627370496) * 2 ^ (c / 4503599627370496 - 1)) (2 ^ 1074)) (sym x)
    (fields-high (leb 9223372036854775808 b) (c / 4503599627370496 - 1) (c % 4503599627370496) (omega arith))))
    (lt-or-ge c 4503599627370496)

pub infinite : (b : ℕ) → b % 9223372036854775808 ≡ 9218868437227405312 → of_bits binary64 b ≡ inf (leb 9223372036854775808 b)
unfolding of_fields
infinite b h =
    let x : b % 9223372036854775808 / 4503599627370496 ≡ 2047 = omega arith in
    let t : b % 4503599627370496 ≡ 0 = omega arith in
    of_bits_is b ∙ rw (x, t)

-- ---- 2 ^ 53 in units, and the first pattern there
pub units_under : (b : ℕ) → b < 4845873199050653696 → units_of b < 2 ^ 53 * 2 ^ 1074
units_under b h = ⊎_elim
    (λ (l : b < 4503599627370496). let z : b / 4503599627370496 ≡ 0 = omega arith in
    rw (units-low b z) (lt_of_lt_of_le (bounded b) (lit≤ tt)))
    (λ (l : 4503599627370496 ≤ b). rw (units-high b l)
    (lt_of_lt_of_le (mul-lt-mul_of_pos_right (digits b) (pow_pos (b / 4503599627370496 - 1))) (mul-le-mul {n₁ = 9007199254740992} {n₂ = 2 ^ 53} (lit≤ tt) (pow_mono (places b h)))))
    (lt-or-ge b 4503599627370496)
  where
    bounded : (b : ℕ) → b % 4503599627370496 * 2 ^ 0 < 9007199254740992
    bounded b = omega arith

    digits : (b : ℕ) → 4503599627370496 + b % 4503599627370496 < 9007199254740992
    digits b = omega arith

    places : (b : ℕ) → b < 4845873199050653696 → b / 4503599627370496 - 1 ≤ 1074
    places b h = omega arith

pub units-over : (b : ℕ) → 4845873199050653696 ≤ b → 2 ^ 53 * 2 ^ 1074 ≤ units_of b
units-over b h =
    let l : 4503599627370496 ≤ b = omega arith in
    rw (units-high b l) (le_trans (lit≤ {m = 2 ^ 53 * 2 ^ 1074} {n = 2 ^ 52 * 2 ^ 1075} tt) (mul-le-mul (digits b) (pow_mono (places b h))))
  where
    digits : (b : ℕ) → 2 ^ 52 ≤ 4503599627370496 + b % 4503599627370496
    digits b = omega arith

    places : (b : ℕ) → 4845873199050653696 ≤ b → 1075 ≤ b / 4503599627370496 - 1
    places b h = omega arith

-- ---- zero alone has no size
pub units-zero : (b : ℕ) → ltb 0 b ≡ ltb 0 (units_of b)
unfolding units_of
units-zero b = ⊎_elim
    (λ (l : b < 4503599627370496). rw (lt-ltb b 4503599627370496 l) refl)
    (λ (l : 4503599627370496 ≤ b). rw (le-ltb b 4503599627370496 l)
    (let p : 0 < 2 ^ (b / 4503599627370496 - 1) = pow_pos (b / 4503599627370496 - 1) in
    let q : 0 < (4503599627370496 + b % 4503599627370496) * 2 ^ (b / 4503599627370496 - 1) = mul-pos (omega arith) p in
    lt-ltb 0 b (omega arith) ∙ sym (lt-ltb 0 _ q)))
    (lt-or-ge b 4503599627370496)

same-zero : (m a u n d : ℕ) → 0 < a → 0 < u → 0 < d → m * a * u ≡ n * d → ltb 0 n ≡ ltb 0 m
same-zero zero a u zero d A U D q = refl
same-zero zero a u (suc n) d A U D q = absurd (let p : 0 < suc n * d = mul-pos (omega arith) D in omega (arith, p, q))
same-zero (suc m) a u zero d A U D q = absurd (let p : 0 < suc m * a * u = mul-pos (mul-pos (omega arith) A) U in omega (arith, p, q))
same-zero (suc m) a u (suc n) d A U D q = lt-ltb 0 (suc n) (omega arith) ∙ sym (lt-ltb 0 (suc m) (omega arith))

-- ---- the texts
pub text-nan : (x : Float) → ne x x ≡ true → 110 ∷ 97 ∷ 110 ∷ [] ≡ fixed_text x
unfolding fixed_text ascii tab
text-nan x e = rw (differs_from_itself x (subst T (sym e) tt))

pub not-nan : (x : Float) → ne x x ≡ false → T (not (is_nan x))
unfolding is_nan
not-nan nan e = let z : ◌≡◌ {A = Bool} true false = sym nan_differs ∙ e in absurd (let y : ◌≡◌ {A = ℕ} 0 1 = cc in omega arith)
not-nan (inf s) e = tt
not-nan (fin s m k) e = tt

pub text-inf : (x : Float) (s : Bool) → x ≡ inf s → minus_text s ++ (105 ∷ 110 ∷ 102 ∷ []) ≡ fixed_text x
unfolding fixed_text ascii tab
text-inf x s e = rw e

pub text-thousandths : (s : Bool) (t : ℕ) → minus_text (s && ltb 0 t) ++ (decimal_text (t / 1000) ++ ((46 ∷ []) ++ digits 10 3 t)) ≡ signed_text s t
unfolding signed_text thousandths_text ascii tab
text-thousandths s t = refl

-- x is n / u in size: below 2 ^ 53 by its thousandths, and from there on by a word
module _ (n u : ℕ) (U : 0 < u) where
  pub text-small : (x : Float) (s : Bool) (size : ℕ) → ltb 0 size ≡ ltb 0 n → HasValue x s n u → n < 2 ^ 53 * u → small_text s size (closest (1000 * n) u) ≡ fixed_text x
  unfolding fixed_text thousandths small_text
  text-small nan s size z v h = absurd v
  text-small (inf t) s size z v h = absurd v
  text-small (fin t m e) s size z (p, q) h =
      let under : m * up e < 2 ^ 53 * down e = lt_of_mul-lt-mul_right u
      (lt_of_le_of_lt (le_of_eq q) (lt_of_lt_of_le (mul-lt-mul_of_pos_right h (down_pos e)) (le_of_eq (mul_right_comm (2 ^ 53) u (down e))))) in
      let same : closest (1000 * n) u ≡ closest (1000 * (m * up e)) (down e) =
      closest_same (1000 * n) u (1000 * (m * up e)) (down e) U (down_pos e) (mul_assoc 1000 n (down e) ∙ ap (λ (z : ℕ). 1000 * z) (sym q) ∙ sym (mul_assoc 1000 (m * up e) u)) in
      rw (lt-ltb (m * up e) (2 ^ 53 * down e) under, same, p, z, same-zero m (up e) u n (down e) (up_pos e) U (down_pos e) q)

  pub text-large : (x : Float) (s : Bool) → HasValue x s n u → 2 ^ 53 * u ≤ n → minus_text s ++ (108 ∷ 97 ∷ 114 ∷ 103 ∷ 101 ∷ []) ≡ fixed_text x
  unfolding fixed_text ascii tab
  text-large nan s v h = absurd v
  text-large (inf t) s v h = absurd v
  text-large (fin t m e) s (p, q) h =
      let over : 2 ^ 53 * down e ≤ m * up e = le_of_mul-le-mul_right
      (le_trans (le_of_eq (mul_right_comm (2 ^ 53) (down e) u)) (le_trans (mul-le-mul_right (down e) h) (le_of_eq (sym q)))) U in
      rw (le-ltb (m * up e) (2 ^ 53 * down e) over, p)
