-- The value of a decimal by its last place: the rounding of `round`, said with whole numbers.
use mathlib.Core.Path.{sym, subst}
use Prim.Native.Nat.{ℕ, ◌+◌, ◌-◌, ◌*◌, ◌/◌, ◌%◌, ◌^◌, ◌≤◌, ◌<◌, compare}
use native.Mathlib.Nat.{div-div-eq-div-mul, div-le_self, le-div_iff_mul-le, one-le-pow, mul-pos, mul-le-mul, mul-lt-mul_of_pos_right, le_trans, le_of_eq, lt_of_le_of_lt, lt_of_lt_of_le}
use native.Mathlib.Omega.{arith}
use lib.Dec.{lit<, lit≤}
use lib.Pow.{pow-add, pow_pos, pow_mono}
use lib.Ieee.{Float, binary64, size}
use lib.Ieee.Digits.{size-le, size_reaches}
use lib.Ieee.Exact.{HasValue, units_val}
use lib.Ieee.Fits.{nearest-le, kept-lt, round_is}
use lib.Ieee.Nearest.{closest, nearest-ge}
use Rattle.decimals.specs.Decimal.{value_of}
use Rattle.decimals.specs.Claims.{ValueRoundedOnce}
use Rattle.decimals.proofs.Rounding.{closest-half}

-- n / b is a number in units, and j of its binary digits are dropped
module _ (n b : ℕ) (B : 0 < b) where
  abbrev j : ℕ
  j = size (n / b) - 53

  abbrev u : ℕ
  u = b * 2 ^ j

  u-pos : 0 < u
  u-pos = mul-pos B (pow_pos j)

  few : closest n u ≤ 2 ^ 53
  few = le_trans (nearest-le (n / u) (compare (n % u * 2) u)) (subst (λ (x : ℕ). x < 2 ^ 53) (div-div-eq-div-mul n b (2 ^ j)) (kept-lt 53 (n / b)))

  full : 0 < j → 2 ^ 52 ≤ closest n u
  full h =
      let r : 2 ^ (52 + j) ≤ n / b = size_reaches (n / b) (52 + j) (omega arith) in
      let q : 2 ^ 52 ≤ n / b / 2 ^ j = (le-div_iff_mul-le (pow_pos j)).1 (le_trans (le_of_eq (sym (pow-add 2 52 j))) r) in
      le_trans (subst (λ (x : ℕ). 2 ^ 52 ≤ x) (div-div-eq-div-mul n b (2 ^ j)) q) (nearest-ge (n / u) (compare (n % u * 2) u))

  -- far below the largest f64
  under : n < 2 ^ 1124 → closest n u * 2 ^ j < 2 ^ 2098
  under h =
      let s : size (n / b) ≤ 1124 = size-le (n / b) 1124 (lt_of_le_of_lt (div-le_self n b) h) in
      let l : j ≤ 1071 = omega arith in
      lt_of_le_of_lt (mul-le-mul few (pow_mono l)) (lit< {m = 2 ^ 53 * 2 ^ 1071} {n = 2 ^ 2098} tt)

in-units : (a : ℕ) → a < 10 ^ 15 → a * 2 ^ 1074 < 2 ^ 1124
in-units a h = lt_of_lt_of_le (mul-lt-mul_of_pos_right h (pow_pos 1074)) (lit≤ {m = 10 ^ 15 * 2 ^ 1074} {n = 2 ^ 1124} tt)

pub value-rounded-once : ValueRoundedOnce
unfolding value_of
value-rounded-once s a k h =
    let n = a * 2 ^ 1074 in
    let b = 10 ^ k in
    let B : 0 < b = one-le-pow k 10 (lit< tt) in
    record {
      c = closest n (u n b B);
      j = j n b B;
      value = subst (λ (x : Float). HasValue x s (closest n (u n b B) * 2 ^ j n b B) (2 ^ 1074)) (sym (round_is binary64 s a b)) (units_val binary64 s (closest n (u n b B)) (j n b B) (under n b B (in-units a h)));
      half = closest-half n (u n b B) (u-pos n b B);
      few = few n b B;
      full = full n b B;
    }
