-- A number that is within half a place of the root is the root's digits, rounded; and its square in two parts, as the code compares it. 4503599627370496 is 2 ^ 52, 67108864 is 2 ^ 26.
use mathlib.Core.Path.{◌≡◌, refl, sym, ap, ◌∙◌, subst}
use mathlib.Core.Bool.{false, not, true≢false}
use Prim.Native.Nat.{ℕ, zero, suc, ◌+◌, ◌-◌, ◌*◌, ◌/◌, ◌%◌, ◌^◌, ◌≤◌, ◌<◌}
use native.Mathlib.Nat.{mul-le-mul, mul-one, mod-eq_of_lt}
use native.Mathlib.Omega.{arith}
use lib.Dec.{T}
use lib.Ieee.{Float, nan, inf, fin, binary64, fits, is_nan, ne, odd, of_bits, to_bits}
use lib.Ieee.Bits.{of_bits-to_bits}
use lib.Ieee.Compare.{nan_differs}
use Rattle.numbers.specs.Root.{floor_root, root_of, sqrt_of}
use Rattle.numbers.proofs.FloorRoot.{Floor, floor_root-is, root-le}
use Rattle.numbers.proofs.RootAt.{scaled, twice, root-at, scaled-ge, scaled-lt, floor-is}
use Rattle.numbers.proofs.Patterns.{written, of-normal}

-- ---- the square of a number of 53 digits

module _ (c : ℕ) (few : c < 2 ^ 53) where
  abbrev head : ℕ
  head = c / 67108864

  abbrev tail : ℕ
  tail = c % 67108864

  head-le : head ≤ 134217727
  head-le = omega arith

  tail-le : tail ≤ 67108863
  tail-le = omega arith

  pub cross-le : head * tail ≤ 134217727 * 67108863
  cross-le = mul-le-mul head-le tail-le

  pub heads-le : head * head ≤ 134217727 * 134217727
  heads-le = mul-le-mul head-le head-le

  pub tails-le : tail * tail ≤ 67108863 * 67108863
  tails-le = mul-le-mul tail-le tail-le

  pub square-is : c * c ≡ (head * head + head * tail / 33554432) * 4503599627370496 + (head * tail % 33554432 * 134217728 + tail * tail)
  square-is = subst (λ (x : ℕ). x * x ≡ (head * head + head * tail / 33554432) * 4503599627370496 + (head * tail % 33554432 * 134217728 + tail * tail)) (sym (parts c)) (multiplied head tail)
    where
      parts : (c : ℕ) → c ≡ c / 67108864 * 67108864 + c % 67108864
      parts c = omega arith

      multiplied : (a b : ℕ) → (a * 67108864 + b) * (a * 67108864 + b) ≡ (a * a + a * b / 33554432) * 4503599627370496 + (a * b % 33554432 * 134217728 + b * b)
      multiplied a b = omega arith

-- the comparison, with 2 * 2 ^ 52 added on both sides
pub compared : (m c high rest : ℕ) → c * c ≡ high * 4503599627370496 + rest → high ≤ m + 2 → rest + 9007199254740992 < (m + 2 - high) * 4503599627370496 + c
    → (m + 2 - high) * 4503599627370496 ≤ rest + 9007199254740992 + c → (c * c < m * 2 ^ 52 + c) × (m * 2 ^ 52 ≤ c * c + c)
compared m c high rest e h a b = (omega arith, omega arith)

-- ---- the digits of the root

pub nearest : (m c : ℕ) → m < 2 ^ 54 → 0 < c → c * c < m * 2 ^ 52 + c → m * 2 ^ 52 ≤ c * c + c → (floor_root 54 (m * 2 ^ 54) + 1) / 2 ≡ c
nearest m zero h p a b = absurd (none p)
  where
    none : 0 < 0 → ⊥
    none p = omega arith
nearest m (suc d) h p a b =
    let s = floor_root 54 (m * 2 ^ 54) in
    let f : Floor (m * 2 ^ 54) s = floor_root-is 54 (m * 2 ^ 54) (fits m h) in
    halved s d (root-le (2 * d + 1) s (m * 2 ^ 54) (low m d a) f.1) (root-le s (2 * suc d) (m * 2 ^ 54) f.0 (high m (suc d) b))
  where
    fits : (m : ℕ) → m < 2 ^ 54 → m * 2 ^ 54 < 4 ^ 54
    fits m h = omega arith

    low : (m d : ℕ) → suc d * suc d < m * 2 ^ 52 + suc d → (2 * d + 1) * (2 * d + 1) ≤ m * 2 ^ 54
    low m d a = omega arith

    high : (m c : ℕ) → m * 2 ^ 52 ≤ c * c + c → m * 2 ^ 54 < (2 * c + 1) * (2 * c + 1)
    high m c b = omega arith

    halved : (s d : ℕ) → 2 * d + 1 ≤ s → s ≤ 2 * suc d → (s + 1) / 2 ≡ suc d
    halved s d a b = omega arith

-- ---- the pattern of the root of a normal number's pattern b

module _ (b : ℕ) (lo : 4503599627370496 ≤ b) (hi : b < 9218868437227405312) where
  abbrev place : ℕ
  place = b / 4503599627370496 + 1021

  abbrev digits : ℕ
  digits = 4503599627370496 + b % 4503599627370496

  from : 2 ^ 52 ≤ digits * 2 ^ 0
  from = omega arith

  upto : digits * 2 ^ 0 < 2 ^ 53
  upto = omega arith

  -- nothing is cut off where the digits are shifted
  pub shifted : (digits * 2 ^ (place % 2)) % 2 ^ 64 ≡ scaled digits 0 place
  shifted =
      mod-eq_of_lt (small (digits * 2 ^ (place % 2)) (subst (λ (x : ℕ). x * 2 ^ (place % 2) < 2 ^ 54) (mul-one digits) (scaled-lt digits 0 place from upto)))
      ∙ ap (λ (x : ℕ). x * 2 ^ (place % 2)) (sym (mul-one digits))
    where
      small : (x : ℕ) → x < 2 ^ 54 → x < 2 ^ 64
      small x h = omega arith

  pub shifted-lt : (digits * 2 ^ (place % 2)) % 2 ^ 64 < 2 ^ 54
  shifted-lt = subst (λ (x : ℕ). x < 2 ^ 54) (sym shifted) (scaled-lt digits 0 place from upto)

  pub root-pattern : (d c : ℕ) → d ≡ place / 2 * 4503599627370496 + c → 4503599627370496 ≤ c → c < 9007199254740992
      → (c * c < (digits * 2 ^ (place % 2)) % 2 ^ 64 * 2 ^ 52 + c) × ((digits * 2 ^ (place % 2)) % 2 ^ 64 * 2 ^ 52 ≤ c * c + c) → of_bits binary64 d ≡ sqrt_of (of_bits binary64 b)
  root-pattern d c e l h near =
      let r : (twice digits 0 place + 1) / 2 ≡ c =
      subst (λ (x : ℕ). (floor_root 54 (x * 2 ^ 54) + 1) / 2 ≡ c) shifted (nearest ((digits * 2 ^ (place % 2)) % 2 ^ 64) c shifted-lt (omega arith) near.0 near.1) in
      ap (of_bits binary64) e
      ∙ written c (place / 2) l (omega arith) (omega arith)
      ∙ ap (λ (x : ℕ). odd 54 false x (place / 2) 1074) (sym r)
      ∙ sym (root-at digits (b / 4503599627370496 - 1) 0 place (omega arith) from upto)
      ∙ sym (of-normal b lo hi)

-- ---- the same of two numbers

pub number : (x : Float) → ne x x ≡ false → T (not (is_nan x))
unfolding is_nan
number nan d = absurd (true≢false (sym nan_differs ∙ d))
number (inf s) d = tt
number (fin s m e) d = tt

pub of-patterns : (x y : Float) → T (fits binary64 x) → T (fits binary64 y) → of_bits binary64 (to_bits binary64 y) ≡ sqrt_of (of_bits binary64 (to_bits binary64 x)) → y ≡ sqrt_of x
of-patterns x y fx fy e = sym (of_bits-to_bits binary64 y fy) ∙ e ∙ ap sqrt_of (of_bits-to_bits binary64 x fx)
