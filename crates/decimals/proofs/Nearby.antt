-- The thousandths of a number: the nearest, and how `nearest` finds it.
use mathlib.Core.Path.{◌≡◌, refl, sym, ap, ◌∙◌, subst}
use Prim.Native.Nat.{ℕ, ◌+◌, ◌*◌, ◌/◌, ◌%◌, ◌^◌, ◌≤◌, ◌<◌, compare, Ordering}
use native.Mathlib.Nat.{mod-eq_of_lt, div-eq_of_lt, one-mul, mul_assoc, lt_of_lt_of_le}
use native.Mathlib.Omega.{arith}
use lib.Dec.{lit<}
use lib.Pow.{pow-add, pow_pos, pow_mono, shl_exact}
use lib.Ieee.{fin, up, down, nearest}
use lib.Ieee.Fits.{down_pos}
use lib.Ieee.Nearest.{closest, closest_same}
use Rattle.decimals.proofs.Rounding.{Says, says, closest-half, only_one}
use Rattle.decimals.specs.Fixed.{thousandths}
use Rattle.decimals.specs.Printed.{Nearest, NoOther}

-- ---- how the code finds it
pub is_below : (v u : ℕ) → v % u * 2 < u → v / u ≡ closest v u
is_below v u h = go (compare (v % u * 2) u) (says (v % u * 2) u)
  where
    go : (o : Ordering) → Says o (v % u * 2) u → v / u ≡ nearest (v / u) o
    go Ordering.lt s = refl
    go Ordering.eq s = absurd (omega arith)
    go Ordering.gt s = absurd (omega arith)

pub is-above : (v u : ℕ) → u < v % u * 2 → v / u + 1 ≡ closest v u
is-above v u h = go (compare (v % u * 2) u) (says (v % u * 2) u)
  where
    go : (o : Ordering) → Says o (v % u * 2) u → v / u + 1 ≡ nearest (v / u) o
    go Ordering.lt s = absurd (omega arith)
    go Ordering.eq s = absurd (omega arith)
    go Ordering.gt s = omega arith

pub is-tie : (v u : ℕ) → u ≤ v % u * 2 → v % u * 2 ≤ u → v / u + v / u % 2 ≡ closest v u
is-tie v u h k = go (compare (v % u * 2) u) (says (v % u * 2) u)
  where
    go : (o : Ordering) → Says o (v % u * 2) u → v / u + v / u % 2 ≡ nearest (v / u) o
    go Ordering.lt s = absurd (omega arith)
    go Ordering.eq s = refl
    go Ordering.gt s = absurd (omega arith)

-- less than half is none
pub is_none : (a b : ℕ) → a * 2 < b → 0 ≡ closest a b
is_none a b h =
    let l : a < b = omega arith in
    let m : a % b ≡ a = mod-eq_of_lt l in
    sym (div-eq_of_lt l) ∙ is_below a b (subst (λ (x : ℕ). x * 2 < b) (sym m) h)

-- `1 << d`
pub bit : (d : ℕ) → d < 64 → (1 * 2 ^ d) % 2 ^ 64 ≡ 2 ^ d
bit d h = shl_exact {a = 1} 1 d 64 (lit< tt) (room d h) ∙ one-mul (2 ^ d)
  where
    room : (d : ℕ) → d < 64 → 1 + d ≤ 64
    room d h = omega arith

-- ---- q * 2 ^ k units of 2 ^ -1074: n is 1074
pub fewer-places : (q k d n : ℕ) → k + d ≡ n → closest (1000 * q) (2 ^ d) ≡ closest (1000 * (q * 2 ^ k)) (2 ^ n)
fewer-places q k d n e =
    closest_same (1000 * q) (2 ^ d) (1000 * (q * 2 ^ k)) (2 ^ n) (pow_pos d) (pow_pos n)
    (ap (λ (x : ℕ). 1000 * q * x) (ap (λ (x : ℕ). 2 ^ x) (sym e) ∙ pow-add 2 k d)
    ∙ sym (mul_assoc (1000 * q) (2 ^ k) (2 ^ d))
    ∙ ap (λ (x : ℕ). x * 2 ^ d) (mul_assoc 1000 q (2 ^ k)))

pub far-below : (q k d n : ℕ) → k + d ≡ n → 64 ≤ d → q < 2 ^ 53 → 0 ≡ closest (1000 * (q * 2 ^ k)) (2 ^ n)
far-below q k d n e l h =
    let w : 1000 * q * 2 < 2 ^ 64 = omega arith in
    let p : 2 ^ 64 ≤ 2 ^ d = pow_mono l in
    fewer q k d n e (is_none (1000 * q) (2 ^ d) (lt_of_lt_of_le w p))
  where
    fewer : (q k d n : ℕ) → k + d ≡ n → 0 ≡ closest (1000 * q) (2 ^ d) → 0 ≡ closest (1000 * (q * 2 ^ k)) (2 ^ n)
    fewer q k d n e z = z ∙ fewer-places q k d n e

-- ---- the thousandths
pub is-nearest : Nearest
unfolding thousandths
is-nearest s m e = closest-half (1000 * (m * up e)) (down e) (down_pos e)

pub no_other : NoOther
unfolding thousandths
no_other s m e t h = only_one (1000 * (m * up e)) (down e) (down_pos e) t (thousandths (fin s m e)) h (is-nearest s m e)
