-- The division of two f64s that are whole numbers exactly is the quotient rounded once, and the powers of ten up to 10 ^ 22 are such f64s.
use mathlib.Core.Path.{◌≡◌, refl, sym, ap, ◌∙◌, subst}
use mathlib.Core.Bool.{Bool, true, false, cond}
use mathlib.Core.List.{List}
use Prim.Native.Nat.{ℕ, zero, suc, ◌+◌, ◌*◌, ◌^◌, ◌≤◌, ◌<◌}
use native.Mathlib.Nat.{pow-suc, pow-le-pow_right, one-le-pow, lt_of_le_of_lt, mul-le-mul, mul-pos, mul-one, mul_assoc}
use native.Mathlib.Omega.{arith}
use borrow.Author.Tests.{ne_eqb}
use lib.Dec.{T, le→leb, ltb, lit<}
use lib.IntN.{pos}
use lib.ListN.{get_or}
use lib.Pow.{pow-add, pow_mono}
use lib.Ieee.{Float, nan, inf, fin, binary64, up, down, odd, units, round, neg, div, of_int, in_float}
use lib.Ieee.Exact.{HasValue, round_exact}
use lib.Ieee.Fits.{down_pos, round_is}
use lib.Ieee.Back.{round_whole}
use lib.Ieee.Scale.{round_same}
use Rattle.numbers.specs.Numbers.{tab}
use Rattle.numbers.proofs.Lists.{get_d-tab}
use Rattle.decimals.specs.Decimal.{value_of}

-- ---- a division of whole numbers
not-zero : (n b x y : ℕ) → n * x * 1 ≡ b * y → 0 < b → 0 < y → n ≡ 0 → ⊥
not-zero n b x y e B Y z =
    let p : 0 < b * y = mul-pos B Y in
    let q : n * x * 1 ≡ 0 = ap (λ (k : ℕ). k * x * 1) z ∙ omega arith in
    omega arith

cross : (x y a b E D : ℕ) → x * 1 ≡ a * E → y * 1 ≡ b * D → x * D * b ≡ a * (y * E)
cross x y a b E D p q =
    let s : x ≡ a * E = sym (mul-one x) ∙ p in
    let t : y ≡ b * D = sym (mul-one y) ∙ q in
    ap (λ (k : ℕ). k * D * b) s ∙ swap a b E D ∙ ap (λ (k : ℕ). a * (k * E)) (sym t)
  where
    swap : (a b E D : ℕ) → a * E * D * b ≡ a * (b * D * E)
    swap a b E D = omega arith

div-whole : (x y : Float) (a b : ℕ) → HasValue x false a 1 → HasValue y false b 1 → 0 < b → div binary64 x y ≡ round binary64 false a b
unfolding div
div-whole nan y a b v w B = absurd v
div-whole (inf s) y a b v w B = absurd v
div-whole (fin s m e) nan a b v w B = absurd w
div-whole (fin s m e) (inf t) a b v w B = absurd w
div-whole (fin s m e) (fin t n d) a b (p, q) (r, w) B =
    let z : n ≡ 0 → ⊥ = not-zero n b (up d) (down d) w B (down_pos d) in
    let k : 0 < n * up d = subst (λ (x : ℕ). 0 < x) (sym w ∙ mul-one (n * up d)) (mul-pos B (down_pos d)) in
    rw (ne_eqb n 0 z, p, r)
    (round_same binary64 false (m * up e * down d) (n * up d * down e) a b (mul-pos k (down_pos e)) B (cross (m * up e) (n * up d) a b (down e) (down d) q w))

-- ---- the powers of ten
ten-is : (k : ℕ) → 10 ^ k ≡ 5 ^ k * 2 ^ k
ten-is zero = refl
ten-is (suc k) = pow-suc 10 k ∙ ap (λ (x : ℕ). x * 10) (ten-is k) ∙ regroup (5 ^ k) (2 ^ k) ∙ ap (λ (x : ℕ). x * (2 ^ k * 2)) (sym (pow-suc 5 k)) ∙ ap (λ (x : ℕ). 5 ^ suc k * x) (sym (pow-suc 2 k))
  where
    regroup : (a b : ℕ) → a * b * 10 ≡ a * 5 * (b * 2)
    regroup a b = omega arith

ten-value : (k : ℕ) → k ≤ 22 → HasValue (round binary64 false (10 ^ k) 1) false (10 ^ k) 1
ten-value k h =
    let five : 5 ^ k ≤ 5 ^ 22 = pow-le-pow_right {n = 5} (lit< tt) {i = k} {j = 22} h in
    let places : k + 1074 ≤ 1096 = omega arith in
    round_exact binary64 false (10 ^ k) 1 (5 ^ k) (k + 1074) (lit< tt) (lt_of_le_of_lt five (lit< tt))
    (lt_of_le_of_lt (mul-le-mul five (pow_mono places)) (lit< {m = 5 ^ 22 * 2 ^ 1096} {n = 2 ^ 2098} tt))
    (ap (λ (x : ℕ). x * 2 ^ 1074) (ten-is k) ∙ mul_assoc (5 ^ k) (2 ^ k) (2 ^ 1074) ∙ ap (λ (x : ℕ). 5 ^ k * x) (sym (pow-add 2 k 1074)) ∙ sym (mul-one (5 ^ k * 2 ^ (k + 1074))))

-- the table of them
unfoldable pub powers : List Float
powers = tab 23 (λ k. round binary64 false (10 ^ k) 1)

pub power_at : (l : List Float) (k : ℕ) → l ≡ powers → k < 23 → get_or l k nan ≡ round binary64 false (10 ^ k) 1
unfolding powers
power_at l k e h = rw e (get_d-tab 23 (λ k. round binary64 false (10 ^ k) 1) nan k h)

-- ---- the value of a decimal
pub exact : (a : ℕ) → a < 1000000000000000 → T (in_float binary64 (pos a))
unfolding in_float
exact a h = le→leb a (2 ^ 53) (omega arith)

quotient_is : (a k : ℕ) → a < 1000000000000000 → k ≤ 22 → div binary64 (of_int binary64 (pos a)) (round binary64 false (10 ^ k) 1) ≡ round binary64 false a (10 ^ k)
unfolding of_int
quotient_is a k h l = div-whole (round binary64 false a 1) (round binary64 false (10 ^ k) 1) a (10 ^ k) (round_whole binary64 false a (omega arith)) (ten-value k l) (one-le-pow k 10 (lit< tt))

-- the rounding of a number below zero is that of its size
neg-odd : (d q k l : ℕ) → neg (odd d false q k l) ≡ odd d true q k l
unfolding neg odd
neg-odd d zero k l = refl
neg-odd d (suc q) k l = refl

neg-units : (q k : ℕ) → neg (units binary64 false q k) ≡ units binary64 true q k
unfolding units neg
neg-units q k = go (ltb (q * 2 ^ k) (2 ^ 2098))
  where
    go : (b : Bool) → neg (cond b (odd 54 false q k 1074) (inf false)) ≡ cond b (odd 54 true q k 1074) (inf true)
    go true = neg-odd 54 q k 1074
    go false = refl

neg-round : (a b : ℕ) → neg (round binary64 false a b) ≡ round binary64 true a b
neg-round a b = ap neg (round_is binary64 false a b) ∙ neg-units _ _ ∙ sym (round_is binary64 true a b)

module _ (a k : ℕ) (A : a < 1000000000000000) (K : k ≤ 22) (p : Float) (P : p ≡ round binary64 false (10 ^ k) 1) where
  pub value-plus : (s : Bool) → s ≡ false → div binary64 (of_int binary64 (pos a)) p ≡ value_of s a k
  unfolding value_of
  value-plus s e = rw (P, e) (quotient_is a k A K)

  pub value-minus : (s : Bool) → s ≡ true → neg (div binary64 (of_int binary64 (pos a)) p) ≡ value_of s a k
  unfolding value_of
  value-minus s e = rw (P, e) (ap neg (quotient_is a k A K) ∙ neg-round a (10 ^ k))
