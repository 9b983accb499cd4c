-- A product with a power of two is a scaling, rounded once.
use mathlib.Core.Path.{◌≡◌, refl, sym, ap, ap₂, ◌∙◌, subst}
use Prim.Native.Nat.{ℕ, zero, suc, ◌+◌, ◌-◌, ◌*◌, ◌/◌, ◌%◌, ◌^◌, ◌≤◌, ◌<◌}
use native.Mathlib.Nat.{le_trans, le_of_eq, le_of_lt, lt_of_lt_of_le, lt_of_le_of_lt, lt_irrefl, zero-mul, mul-one, one-mul, mul_assoc, mul_right_comm, mul-mul-mul_comm, mul-lt-mul_of_pos_right, eq_of_mul-eq-mul_right, mul-pos, mod-eq_of_lt, mod-le}
use native.Mathlib.Omega.{arith}
use mathlib.Core.Bool.{Bool, true, false, cond, true≢false}
use lib.Dec.{T, eqb-suc-zero, lit≤}
use lib.Count.{count_trailing_zeros}
use lib.Pow.{pow-add, pow_pos, pow_mono, pow-lt}
use lib.Ieee.{Float, nan, inf, fin, binary64, up, down, odd, round, mul, fits, of_bits, of_fields}
use lib.Ieee.Exact.{HasValue, odd_sign}
use lib.Ieee.Fits.{down_pos}
use lib.Ieee.Scale.{round_same}
use Rattle.numbers.specs.Numbers.{◌⊗◌}
use Rattle.numbers.specs.Rounded.{IsUnits}
use Rattle.numbers.proofs.Patterns.{subnormal, normal}
use Rattle.norms.specs.Norm.{scaled, magnitude}
use Rattle.norms.proofs.Units.{digits_of}
use Rattle.norms.proofs.Scaled.{some-units, magnitude-is, scaled-is, scaled_exact}

-- ---- the patterns of powers of two
pub low-power : (j : ℕ) → j < 52 → IsUnits (of_bits binary64 (1 * 2 ^ j % 2 ^ 64)) (2 ^ j)
low-power j h =
    let b : 2 ^ j < 2 ^ 52 = pow-lt h in
    let e : 1 * 2 ^ j % 2 ^ 64 ≡ 2 ^ j = ap (λ (n : ℕ). n % 2 ^ 64) (one-mul (2 ^ j)) ∙ mod-eq_of_lt (lt_of_lt_of_le b (pow_mono {i = 52} {j = 64} (lit≤ tt))) in
    subst (λ (x : Float). IsUnits x (2 ^ j)) (sym (ap (of_bits binary64) e ∙ subnormal (2 ^ j) b)) (subst (λ (n : ℕ). IsUnits (odd 53 false (2 ^ j) 0 1074) n) (mul-one (2 ^ j)) (odd_sign 53 false (2 ^ j) 0 1074))

pub low-pattern : (j : ℕ) → j < 52 → 1 * 2 ^ j % 2 ^ 64 ≤ 9218868437227405312
low-pattern j h = le_trans (mod-le (1 * 2 ^ j) (2 ^ 64)) (le_trans (le_of_eq (one-mul (2 ^ j))) (le_trans (pow_mono (le_of_lt h)) (lit≤ {m = 2 ^ 52} {n = 9218868437227405312} tt)))

pub high-power : (j : ℕ) → 52 ≤ j → j ≤ 2097 → IsUnits (of_bits binary64 ((j - 51) * 4503599627370496)) (2 ^ j)
high-power j h k =
    let b = (j - 51) * 4503599627370496 in
    subst (λ (x : Float). IsUnits x (2 ^ j)) (sym (normal b (omega arith) (omega arith)))
    (subst (λ (n : ℕ). IsUnits (odd 53 false (4503599627370496 + b % 4503599627370496) (b / 4503599627370496 - 1) 1074) n) units (odd_sign 53 false (4503599627370496 + b % 4503599627370496) (b / 4503599627370496 - 1) 1074))
  where
    place : (j : ℕ) → 52 ≤ j → (j - 51) * 4503599627370496 / 4503599627370496 - 1 ≡ j - 52
    place j h = omega arith

    rest : (j : ℕ) → (j - 51) * 4503599627370496 % 4503599627370496 ≡ 0
    rest j = omega arith

    back : (j : ℕ) → 52 ≤ j → 52 + (j - 52) ≡ j
    back j h = omega arith

    units : (4503599627370496 + (j - 51) * 4503599627370496 % 4503599627370496) * 2 ^ ((j - 51) * 4503599627370496 / 4503599627370496 - 1) ≡ 2 ^ j
    units = ap₂ (λ (a b : ℕ). (4503599627370496 + a) * 2 ^ b) (rest j) (place j h) ∙ sym (pow-add 2 52 (j - 52)) ∙ ap (λ (n : ℕ). 2 ^ n) (back j h)

-- ---- a product with 2 ^ j units, where that is 2 ^ p / 2 ^ q
cross : (x y f d P Q J U : ℕ) → 0 < U → y * U ≡ J * d → J * Q ≡ P * U → x * y * (f * Q) ≡ x * P * (f * d)
cross x y f d P Q J U h v e =
    let s : y * Q ≡ P * d = eq_of_mul-eq-mul_right U h (y * Q) (P * d) (mul_right_comm y Q U ∙ ap (λ (z : ℕ). z * Q) v ∙ mul_right_comm J d Q ∙ ap (λ (z : ℕ). z * d) e ∙ mul_right_comm P U d) in
    mul-mul-mul_comm x y f Q ∙ ap (λ (z : ℕ). x * f * z) s ∙ mul-mul-mul_comm x f P d

pub by-power : (p q j : ℕ) (x y : Float) → IsUnits y (2 ^ j) → 2 ^ j * 2 ^ q ≡ 2 ^ p * 2 ^ 1074 → x ⊗ y ≡ scaled p q x
unfolding mul scaled
by-power p q j x nan v e = absurd v
by-power p q j x (inf s) v e = absurd v
by-power p q j x (fin true n d) v e = absurd (true≢false v.0)
by-power p q j nan (fin false n d) v e = refl
by-power p q j (inf s) (fin false zero d) v e = absurd (lt_irrefl 0 (subst (λ (k : ℕ). 0 < k) (sym v.1 ∙ ap (λ (k : ℕ). k * 2 ^ 1074) (zero-mul (up d)) ∙ zero-mul (2 ^ 1074)) (mul-pos (pow_pos j) (down_pos d))))
by-power p q j (inf true) (fin false (suc n) d) v e = ap (λ (b : Bool). cond b nan (inf true)) (eqb-suc-zero n)
by-power p q j (inf false) (fin false (suc n) d) v e = ap (λ (b : Bool). cond b nan (inf false)) (eqb-suc-zero n)
by-power p q j (fin true m f) (fin false n d) v e =
    round_same binary64 true (m * up f * (n * up d)) (down f * down d) (m * up f * 2 ^ p) (down f * 2 ^ q) (mul-pos (down_pos f) (down_pos d)) (mul-pos (down_pos f) (pow_pos q))
    (cross (m * up f) (n * up d) (down f) (down d) (2 ^ p) (2 ^ q) (2 ^ j) (2 ^ 1074) (pow_pos 1074) v.1 e)
by-power p q j (fin false m f) (fin false n d) v e =
    round_same binary64 false (m * up f * (n * up d)) (down f * down d) (m * up f * 2 ^ p) (down f * 2 ^ q) (mul-pos (down_pos f) (down_pos d)) (mul-pos (down_pos f) (pow_pos q))
    (cross (m * up f) (n * up d) (down f) (down d) (2 ^ p) (2 ^ q) (2 ^ j) (2 ^ 1074) (pow_pos 1074) v.1 e)

-- ---- `reduce`: one product, or two of which the first is exact
powers : (a b c d : ℕ) → a + b ≡ c + d → 2 ^ a * 2 ^ b ≡ 2 ^ c * 2 ^ d
powers a b c d e = sym (pow-add 2 a b) ∙ ap (λ (n : ℕ). 2 ^ n) e ∙ pow-add 2 c d

pub scale_one : (z : ℕ) (x p : Float) → z ≤ 2149 → IsUnits p (2 ^ (2149 - z)) → x ⊗ p ≡ scaled 1075 z x
scale_one z x p h v = by-power 1075 z (2149 - z) x p v (powers (2149 - z) z 1075 1074 (back z h))
  where
    back : (z : ℕ) → z ≤ 2149 → 2149 - z + z ≡ 1075 + 1074
    back z h = omega arith

pub scale-back-one : (z : ℕ) (x p : Float) → 0 < z → IsUnits p (2 ^ (z - 1)) → x ⊗ p ≡ scaled z 1075 x
scale-back-one z x p h v = by-power z 1075 (z - 1) x p v (powers (z - 1) 1075 z 1074 (back z h))
  where
    back : (z : ℕ) → 0 < z → z - 1 + 1075 ≡ z + 1074
    back z h = omega arith

-- 2 ^ 52 as the program writes it
lit-52 : IsUnits (of_bits binary64 4841369599423283200) (2 ^ 1126)
unfolding of_bits of_fields odd count_trailing_zeros
lit-52 = (refl, refl)

twice : (z : ℕ) (x : Float) → T (fits binary64 x) → magnitude x < 2 ^ z → z < 52 → scaled 1023 z (scaled 52 0 x) ≡ scaled 1075 z x
unfolding scaled
twice z nan f l h = refl
twice z (inf s) f l h = refl
twice z (fin s m e) f l h =
    let x = fin s m e in
    let u = some-units x f tt in
    let n = u.1 in
    let small : n < 2 ^ 52 = lt_of_lt_of_le (lt_of_le_of_lt (le_of_eq (sym (magnitude-is x u.0 n u.2))) l) (pow_mono (le_of_lt h)) in
    let c = digits_of x u.0 n f u.2 in
    let w : HasValue (scaled 52 0 x) u.0 (n * 2 ^ 52) (2 ^ 1074) =
    scaled_exact 52 0 x u.0 n (n * 2 ^ 52) c.0 (c.1 + 52) u.2 (sym (mul-one (n * 2 ^ 52))) c.2
    (ap (λ (k : ℕ). k * 2 ^ 52) c.3 ∙ mul_assoc c.0 (2 ^ c.1) (2 ^ 52) ∙ ap (λ (k : ℕ). c.0 * k) (sym (pow-add 2 c.1 52)))
    (lt_of_lt_of_le (mul-lt-mul_of_pos_right small (pow_pos 52)) (pow_mono {i = 104} {j = 2098} (lit≤ tt))) in
    scaled-is 1023 z (scaled 52 0 x) u.0 (n * 2 ^ 52) w
    ∙ ap (λ (k : ℕ). round binary64 u.0 k (2 ^ 1074 * 2 ^ z)) (mul_assoc n (2 ^ 52) (2 ^ 1023))
    ∙ sym (scaled-is 1075 z x u.0 n u.2)

pub scale-two : (z : ℕ) (x p : Float) → T (fits binary64 x) → magnitude x < 2 ^ z → z < 52 → IsUnits p (2 ^ (2097 - z)) → x ⊗ of_bits binary64 4841369599423283200 ⊗ p ≡ scaled 1075 z x
scale-two z x p f l h v =
    ap (λ (y : Float). y ⊗ p) (by-power 52 0 1126 x (of_bits binary64 4841369599423283200) lit-52 refl)
    ∙ by-power 1023 z (2097 - z) (scaled 52 0 x) p v (powers (2097 - z) z 1023 1074 (back z h))
    ∙ twice z x f l h
  where
    back : (z : ℕ) → z < 52 → 2097 - z + z ≡ 1023 + 1074
    back z h = omega arith
