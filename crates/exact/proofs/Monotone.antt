-- How sums, negations and products keep the order of exact numbers. Assumes nothing.
use mathlib.Core.Path.{◌≡◌, ap}
use mathlib.Core.Logic.{◌⊎◌, inl, inr}
use Prim.Native.Nat.{ℕ, ◌+◌, ◌-◌, ◌*◌, ◌≤◌, ◌<◌}
use native.Mathlib.Nat.{mul-le-mul_right, le_of_lt}
use native.Mathlib.Omega.{arith}
use mathlib.Core.Bool.{Bool, true, false, not}
use lib.Dec.{T, leb, leb→le, nleb→lt}
use Rattle.exact.specs.Exact.{ℚ, ◌≤ℚ◌, whole, negℚ, ◌+ℚ◌, ◌*ℚ◌}
use Rattle.exact.proofs.Laws.{le_trans, add-le}

sum-turned : (q r : ℚ) → q +ℚ r ≤ℚ r +ℚ q
unfolding ◌≤ℚ◌ ◌+ℚ◌
sum-turned q r = go q.plus q.minus q.den r.plus r.minus r.den
  where
    go : (p n d u v w : ℕ) → (p * w + u * d) * (w * d) + (v * d + n * w) * (d * w) ≤ (u * d + p * w) * (d * w) + (n * w + v * d) * (w * d)
    go p n d u v w = omega arith

pub sum_mono : (q q' r r' : ℚ) → q ≤ℚ q' → r ≤ℚ r' → q +ℚ r ≤ℚ q' +ℚ r'
sum_mono q q' r r' h k =
    le_trans (q +ℚ r) (q' +ℚ r) (q' +ℚ r') (add-le q q' r h)
    (le_trans (q' +ℚ r) (r +ℚ q') (q' +ℚ r') (sum-turned q' r) (le_trans (r +ℚ q') (r' +ℚ q') (q' +ℚ r') (add-le r r' q' k) (sum-turned r' q')))

pub negated-mono : (q r : ℚ) → q ≤ℚ r → negℚ r ≤ℚ negℚ q
unfolding ◌≤ℚ◌ negℚ
negated-mono q r h = omega arith

-- ---- products

-- whether r is at least 0
pub either-sign : (r : ℚ) → (r.minus ≤ r.plus) ⊎ (r.plus ≤ r.minus)
either-sign r = go (leb r.minus r.plus) (leb→le r.minus r.plus) (nleb→lt r.minus r.plus)
  where
    go : (b : Bool) → (T b → r.minus ≤ r.plus) → (T (not b) → r.plus < r.minus) → (r.minus ≤ r.plus) ⊎ (r.plus ≤ r.minus)
    go true y n = inl (y tt)
    go false y n = inr (le_of_lt (n tt))

-- a ≤ b times x - y for y ≤ x
cross : (a b x y : ℕ) → a ≤ b → y ≤ x → a * x + b * y ≤ b * x + a * y
cross a b x y h k =
    let e : x ≡ y + (x - y) = omega arith in
    let p : a * x ≡ a * (y + (x - y)) = ap (λ (z : ℕ). a * z) e in
    let q : b * x ≡ b * (y + (x - y)) = ap (λ (z : ℕ). b * z) e in
    go (x - y) p q
  where
    go : (d : ℕ) → a * x ≡ a * (y + d) → b * x ≡ b * (y + d) → a * x + b * y ≤ b * x + a * y
    go d p q = omega (arith, mul-le-mul_right d h)

pub product-mono : (q q' r : ℚ) → q ≤ℚ q' → r.minus ≤ r.plus → q *ℚ r ≤ℚ q' *ℚ r
unfolding ◌≤ℚ◌ ◌*ℚ◌
product-mono q q' r h s =
    let a = q.plus * q'.den + q'.minus * q.den in
    let b = q'.plus * q.den + q.minus * q'.den in
    omega (arith, mul-le-mul_right r.den (cross a b r.plus r.minus h s))

pub product-anti : (q q' r : ℚ) → q ≤ℚ q' → r.plus ≤ r.minus → q' *ℚ r ≤ℚ q *ℚ r
unfolding ◌≤ℚ◌ ◌*ℚ◌
product-anti q q' r h s =
    let a = q.plus * q'.den + q'.minus * q.den in
    let b = q'.plus * q.den + q.minus * q'.den in
    omega (arith, mul-le-mul_right r.den (cross a b r.minus r.plus h s))

pub turned : (q r : ℚ) → q *ℚ r ≤ℚ r *ℚ q
unfolding ◌≤ℚ◌ ◌*ℚ◌
turned q r = omega arith

pub not_negative : (q : ℚ) → whole 0 ≤ℚ q → q.minus ≤ q.plus
unfolding ◌≤ℚ◌
not_negative q h = omega arith

pub is-nonnegative : (q : ℚ) → q.minus ≤ q.plus → whole 0 ≤ℚ q
unfolding ◌≤ℚ◌
is-nonnegative q h = omega arith

-- of two that are not below zero
pub product-both : (q x t y : ℚ) → whole 0 ≤ℚ q → whole 0 ≤ℚ t → q ≤ℚ x → t ≤ℚ y → q *ℚ t ≤ℚ x *ℚ y
product-both q x t y a b h k =
    le_trans (q *ℚ t) (x *ℚ t) (x *ℚ y) (product-mono q x t h (not_negative t b))
    (le_trans (x *ℚ t) (t *ℚ x) (x *ℚ y) (turned x t)
    (le_trans (t *ℚ x) (y *ℚ x) (x *ℚ y) (product-mono t y x k (not_negative x (le_trans (whole 0) q x a h))) (turned y x)))
