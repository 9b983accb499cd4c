-- The root keeps the order: the statement is in `specs/Ordered.antt`.
use mathlib.Core.Path.{◌≡◌, refl, sym, ap, ◌∙◌, subst}
use mathlib.Core.Logic.{◌⊎◌, inl, inr}
use Prim.Native.Nat.{ℕ, zero, suc, ◌+◌, ◌-◌, ◌*◌, ◌/◌, ◌^◌, ◌≤◌, ◌<◌, zero-le}
use native.Mathlib.Nat.{le_trans, le_of_eq, lt_of_le_of_lt, lt_of_lt_of_le, eq-or-lt_of_le, eq-zero-or-pos, zero-lt-suc, zero-mul, one-mul, mul_right_comm, mul-le-mul_right, mul-le-mul_left, mul-pos, le-div_iff_mul-le, div-lt_iff_lt-mul}
use native.Mathlib.Omega.{arith}
use mathlib.Core.Bool.{Bool, true, false, not, true≢false}
use lib.IntN.{ℤ}
use lib.Dec.{T, ltb, ltb→lt, lt→ltb, nltb→le, not_T}
use lib.Pow.{pow-add, pow_pos, pow_mono}
use lib.Ieee.{Float, nan, inf, fin, up, down, size, odd, lt}
use lib.Ieee.Bits.{is_true, is_false}
use lib.Ieee.Digits.{size-lt, size-le, size_reaches}
use lib.Ieee.Exact.{HasValue, odd_sign}
use lib.Ieee.Fits.{up_pos, down_pos}
use lib.Ieee.Nearest.{div_mono}
use lib.Ieee.Order.{transfer}
use Rattle.numbers.specs.Root.{floor_root, root_of, sqrt_of}
use Rattle.numbers.specs.Ordered.{KeepsOrder}
use Rattle.numbers.proofs.FloorRoot.{Floor, floor_root-is, root-le}
use Rattle.numbers.proofs.RootAt.{pow_lt_back}

-- ---- `root_of` n is kept w * 2 ^ drop w units, where w = n * 2 ^ 1074
abbrev pub drop : ℕ → ℕ
drop w = (size w + 1) / 2 - 53

abbrev pub scaled : ℕ → ℕ
scaled w = 4 * w / 2 ^ (2 * drop w)

abbrev pub kept : ℕ → ℕ
kept w = (floor_root 54 (scaled w) + 1) / 2

pub root_is : (n : ℕ) → root_of n ≡ odd 54 false (kept (n * 2 ^ 1074)) (drop (n * 2 ^ 1074)) 1074
unfolding root_of
root_is n = refl

-- ---- the digits that are kept of a w that has at least 107
module _ (w : ℕ) (long : 106 < size w) where
  pub low-places : 2 * drop w + 104 < size w
  low-places = omega arith

  high-places : size w ≤ 2 * drop w + 106
  high-places = omega arith

  pub scaled-ge : 2 ^ 106 ≤ scaled w
  scaled-ge =
      let a : 2 ^ (2 * drop w) * 2 ^ 104 ≤ w = le_trans (le_of_eq (sym (pow-add 2 (2 * drop w) 104))) (size_reaches w (2 * drop w + 104) low-places) in
      (le-div_iff_mul-le (pow_pos (2 * drop w))).1 (four (2 ^ (2 * drop w)) w a)
    where
      four : (d w : ℕ) → d * 2 ^ 104 ≤ w → 2 ^ 106 * d ≤ 4 * w
      four d w h = omega arith

  pub scaled-lt : scaled w < 4 ^ 54
  scaled-lt =
      let a : w < 2 ^ (2 * drop w) * 2 ^ 106 = lt_of_lt_of_le (size-lt w) (le_trans (pow_mono high-places) (le_of_eq (pow-add 2 (2 * drop w) 106))) in
      (div-lt_iff_lt-mul (pow_pos (2 * drop w))).1 (four (2 ^ (2 * drop w)) w a)
    where
      four : (d w : ℕ) → w < d * 2 ^ 106 → 4 * w < 4 ^ 54 * d
      four d w h = omega arith

  pub floor : Floor (scaled w) (floor_root 54 (scaled w))
  floor = floor_root-is 54 (scaled w) scaled-lt

  pub kept-ge : 2 ^ 52 ≤ kept w
  kept-ge =
      half (floor_root 54 (scaled w)) (root-le (2 ^ 53) (floor_root 54 (scaled w)) (scaled w) scaled-ge floor.1)
    where
      half : (s : ℕ) → 2 ^ 53 ≤ s → 2 ^ 52 ≤ (s + 1) / 2
      half s h = omega arith

  pub kept-le : kept w ≤ 2 ^ 53
  kept-le =
      half (floor_root 54 (scaled w)) (root-le (floor_root 54 (scaled w)) (2 ^ 54 - 1) (scaled w) floor.0 scaled-lt)
    where
      half : (s : ℕ) → s ≤ 2 ^ 54 - 1 → (s + 1) / 2 ≤ 2 ^ 53
      half s h = omega arith

-- ---- in order: either both drop as many digits, or the larger drops more, and then a power of two lies between the two
pub size_mono : (v w : ℕ) → v ≤ w → size v ≤ size w
size_mono v w h = size-le v (size w) (lt_of_le_of_lt h (size-lt w))

kept-mono : (v w : ℕ) → 106 < size v → v ≤ w → kept v * 2 ^ drop v ≤ kept w * 2 ^ drop w
kept-mono v w long h = go (eq-or-lt_of_le (fewer (size v) (size w) (size_mono v w h)))
  where
    long' : 106 < size w
    long' = lt_of_lt_of_le long (size_mono v w h)

    fewer : (a b : ℕ) → a ≤ b → (a + 1) / 2 - 53 ≤ (b + 1) / 2 - 53
    fewer a b h = omega arith

    half : (s t : ℕ) → s ≤ t → (s + 1) / 2 ≤ (t + 1) / 2
    half s t h = omega arith

    room : (j k : ℕ) → j < k → 53 + j ≤ 52 + k
    room j k h = omega arith

    same : drop v ≡ drop w → scaled v ≤ scaled w
    same e = subst (λ (d : ℕ). scaled v ≤ 4 * w / 2 ^ (2 * d)) e
        (div_mono (4 * v) (2 ^ (2 * drop v)) (4 * w) (2 ^ (2 * drop v)) (pow_pos (2 * drop v)) (pow_pos (2 * drop v)) (mul-le-mul_right (2 ^ (2 * drop v)) (mul-le-mul_left 4 h)))

    go : (drop v ≡ drop w) ⊎ (drop v < drop w) → kept v * 2 ^ drop v ≤ kept w * 2 ^ drop w
    go (inl e) =
        le_trans (le_of_eq (ap (λ (d : ℕ). kept v * 2 ^ d) e))
        (mul-le-mul_right (2 ^ drop w)
        (half (floor_root 54 (scaled v)) (floor_root 54 (scaled w))
        (root-le (floor_root 54 (scaled v)) (floor_root 54 (scaled w)) (scaled w) (le_trans (floor v long).0 (same e)) (floor w long').1)))
    go (inr l) =
        le_trans (mul-le-mul_right (2 ^ drop v) (kept-le v long))
        (le_trans (le_of_eq (sym (pow-add 2 53 (drop v))))
        (le_trans (pow_mono (room (drop v) (drop w) l))
        (le_trans (le_of_eq (pow-add 2 52 (drop w))) (mul-le-mul_right (2 ^ drop w) (kept-ge w long')))))

-- ---- values that are not negative, compared
test-fails : (a b : ℕ) → b ≤ a → ltb a b ≡ false
test-fails a b h = is_false (ltb a b) (not_T (ltb a b) (λ (u : T (ltb a b)). clash a b h (ltb→lt a b u)))
  where
    clash : (a b : ℕ) → b ≤ a → a < b → ⊥
    clash a b h l = omega arith

pub failed : (a b : ℕ) → ltb a b ≡ false → b ≤ a
failed a b h = nltb→le a b (subst (λ (t : Bool). T (not t)) (sym h) tt)

not_below_holds : (x y : Float) (a b c : ℕ) → 0 < c → HasValue x false a c → HasValue y false b c → b ≤ a → lt x y ≡ false
unfolding lt
not_below_holds nan y a b c C p q h = absurd p
not_below_holds (inf s) y a b c C p q h = absurd p
not_below_holds (fin true m e) y a b c C p q h = absurd (true≢false p.0)
not_below_holds (fin false m e) nan a b c C p q h = absurd q
not_below_holds (fin false m e) (inf t) a b c C p q h = absurd q
not_below_holds (fin false m e) (fin true n d) a b c C p q h = refl
not_below_holds (fin false m e) (fin false n d) a b c C p q h =
    test-fails (m * up e * down d) (n * up d * down e) (transfer (n * up d) (m * up e) (down d) (down e) b a c c C C q.1 p.1 (mul-le-mul_right c h))

-- no root is below a zero, or above the infinity
pub root-value : (n : ℕ) → HasValue (root_of n) false (kept (n * 2 ^ 1074) * 2 ^ drop (n * 2 ^ 1074)) (2 ^ 1074)
root-value n = subst (λ (r : Float). HasValue r false (kept (n * 2 ^ 1074) * 2 ^ drop (n * 2 ^ 1074)) (2 ^ 1074)) (sym (root_is n)) (odd_sign 54 false (kept (n * 2 ^ 1074)) (drop (n * 2 ^ 1074)) 1074)

zero-value : (s : Bool) (e : ℤ) (x : Float) (a c : ℕ) → HasValue x false a c → lt x (fin s zero e) ≡ false
unfolding lt
zero-value s e nan a c p = absurd p
zero-value s e (inf t) a c p = absurd p
zero-value s e (fin true m d) a c p = absurd (true≢false p.0)
zero-value true e (fin false m d) a c p = refl
zero-value false e (fin false m d) a c p =
    test-fails (m * up d * down e) (zero * up e * down d) (le_trans (le_of_eq (ap (λ (x : ℕ). x * down d) (zero-mul (up e)) ∙ zero-mul (down d))) zero-le)

inf-first : (x : Float) (a c : ℕ) → HasValue x false a c → lt (inf false) x ≡ false
unfolding lt
inf-first nan a c p = absurd p
inf-first (inf t) a c p = absurd p
inf-first (fin t m d) a c p = refl

-- ---- two roots in order
pub long-enough : (n : ℕ) → 0 < n → 106 < size (n * 2 ^ 1074)
long-enough n h =
    wide (size (n * 2 ^ 1074))
    (pow_lt_back 1074 (size (n * 2 ^ 1074)) (lt_of_le_of_lt (le_trans (le_of_eq (sym (one-mul (2 ^ 1074)))) (mul-le-mul_right (2 ^ 1074) h)) (size-lt (n * 2 ^ 1074))))
  where
    wide : (z : ℕ) → 1074 < z → 106 < z
    wide z h = omega arith

pub root-zero : HasValue (root_of 0) false 0 (2 ^ 1074)
unfolding root_of floor_root size odd
root-zero = (refl, refl)

roots : (n m : ℕ) → n ≤ m → lt (root_of m) (root_of n) ≡ false
roots n m h = go (eq-zero-or-pos n)
  where
    go : (n ≡ 0) ⊎ (0 < n) → lt (root_of m) (root_of n) ≡ false
    go (inl z) = subst (λ (k : ℕ). lt (root_of m) (root_of k) ≡ false) (sym z) (not_below_holds (root_of m) (root_of 0) _ 0 (2 ^ 1074) (pow_pos 1074) (root-value m) root-zero zero-le)
    go (inr p) =
        not_below_holds (root_of m) (root_of n) _ _ (2 ^ 1074) (pow_pos 1074) (root-value m) (root-value n)
        (kept-mono (n * 2 ^ 1074) (m * 2 ^ 1074) (long-enough n p) (mul-le-mul_right (2 ^ 1074) h))

-- a zero is below each number above zero
pub some : (n : ℕ) (d e : ℤ) → 0 < suc n * up d * down e
some n d e = mul-pos (mul-pos (zero-lt-suc n) (up_pos d)) (down_pos e)

pub holds : (a b : ℕ) → a < b → ltb a b ≡ false → ⊥
holds a b l h = true≢false (sym (is_true (ltb a b) (lt→ltb a b l)) ∙ h)

pub more : (a b : ℕ) → 0 < b → 0 < a + b
more a b h = omega arith

pub nothing : (e d : ℤ) → zero * up e * down d ≡ 0
nothing e d = ap (λ (x : ℕ). x * down d) (zero-mul (up e)) ∙ zero-mul (down d)

plus-zero-first : (e : ℤ) (n : ℕ) (d : ℤ) → ltb (zero * up e * down d) (suc n * up d * down e) ≡ false → ⊥
plus-zero-first e n d = holds (zero * up e * down d) (suc n * up d * down e) (lt_of_le_of_lt (le_of_eq (nothing e d)) (some n d e))

minus-zero-first : (e : ℤ) (n : ℕ) (d : ℤ) → ltb 0 (zero * up e * down d + suc n * up d * down e) ≡ false → ⊥
minus-zero-first e n d = holds 0 (zero * up e * down d + suc n * up d * down e) (more (zero * up e * down d) (suc n * up d * down e) (some n d e))

pub before-nan : (x : Float) → lt x nan ≡ false
unfolding lt
before-nan nan = refl
before-nan (inf s) = refl
before-nan (fin s m e) = refl

-- x and y in whole units, cut
in_order : (a b U p q : ℕ) → 0 < p → 0 < q → b * q ≤ a * p → b * U / p ≤ a * U / q
in_order a b U p q P Q h =
    div_mono (b * U) p (a * U) q P Q (le_trans (le_of_eq (mul_right_comm b U q)) (le_trans (mul-le-mul_right U h) (le_of_eq (mul_right_comm a p U))))

pub keeps-order : KeepsOrder
unfolding lt sqrt_of
keeps-order nan y h = refl
keeps-order (inf true) y h = refl
keeps-order (inf false) nan h = refl
keeps-order (inf false) (inf true) h = refl
keeps-order (inf false) (inf false) h = refl
keeps-order (inf false) (fin s zero d) h = refl
keeps-order (inf false) (fin true (suc n) d) h = refl
keeps-order (inf false) (fin false (suc n) d) h = inf-first (root_of (suc n * up d * 2 ^ 1074 / down d)) _ _ (root-value (suc n * up d * 2 ^ 1074 / down d))
keeps-order (fin true (suc m) e) y h = refl
keeps-order (fin s zero e) nan h = refl
keeps-order (fin s zero e) (inf true) h = refl
keeps-order (fin s zero e) (inf false) h = absurd (true≢false h)
keeps-order (fin s zero e) (fin t zero d) h = h
keeps-order (fin s zero e) (fin true (suc n) d) h = refl
keeps-order (fin true zero e) (fin false (suc n) d) h = absurd (minus-zero-first e n d h)
keeps-order (fin false zero e) (fin false (suc n) d) h = absurd (plus-zero-first e n d h)
keeps-order (fin false (suc m) e) nan h = before-nan (root_of (suc m * up e * 2 ^ 1074 / down e))
keeps-order (fin false (suc m) e) (inf true) h = before-nan (root_of (suc m * up e * 2 ^ 1074 / down e))
keeps-order (fin false (suc m) e) (inf false) h = absurd (true≢false h)
keeps-order (fin false (suc m) e) (fin t zero d) h = zero-value t d (root_of (suc m * up e * 2 ^ 1074 / down e)) _ _ (root-value (suc m * up e * 2 ^ 1074 / down e))
keeps-order (fin false (suc m) e) (fin true (suc n) d) h = before-nan (root_of (suc m * up e * 2 ^ 1074 / down e))
keeps-order (fin false (suc m) e) (fin false (suc n) d) h = roots (suc n * up d * 2 ^ 1074 / down d) (suc m * up e * 2 ^ 1074 / down e)
    (in_order (suc m * up e) (suc n * up d) (2 ^ 1074) (down d) (down e) (down_pos d) (down_pos e) (failed (suc m * up e * down d) (suc n * up d * down e) h))
