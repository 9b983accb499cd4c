-- Values in units of 2 ^ -1074: what a rounded fraction is in units, and that a multiplication by a power of two goes through a square, a sum and a root.
use mathlib.Core.Path.{◌≡◌, refl, sym, ap, ap₂, ◌∙◌, subst}
use mathlib.Core.Logic.{⊎_elim}
use Prim.Native.Nat.{ℕ, zero, suc, ◌+◌, ◌-◌, ◌*◌, ◌/◌, ◌^◌, ◌≤◌, ◌<◌}
use native.Mathlib.Nat.{le_trans, le_of_eq, lt_of_lt_of_le, lt_of_le_of_lt, not-le_of_lt, zero-lt-suc, eq-zero-or-pos, zero-mul, mul-one, one-mul, add-mul, mul_comm, mul_assoc, mul_right_comm, mul-mul-mul_comm, mul-le-mul, mul-le-mul_right, mul-lt-mul_of_pos_right, eq_of_mul-eq-mul_right, le_of_mul-le-mul_right, mul-pos, sub-zero, le_antisymm}
use native.Mathlib.Omega.{arith}
use mathlib.Core.Bool.{Bool, true, false, cond, true≢false}
use lib.IntN.{negsuc}
use lib.Dec.{T, lt→ltb, ltb, lit≤}
use lib.Pow.{pow-add, pow_pos}
use lib.Ieee.{Float, nan, inf, fin, binary64, up, down, size, odd, units, span, climb, round, sum, add, mul, neg, fits}
use lib.Ieee as ieee
use lib.Ieee.Bits.{is_true}
use lib.Count.{count_trailing_zeros}
use lib.Ieee.Digits.{size-lt, size-le, size_reaches}
use lib.Ieee.Exact.{HasValue, round_exact, odd_sign}
use lib.Ieee.Fits.{round_is, round-fits, neg-fits, down_pos}
use lib.Ieee.Order.{drop, kept, round_mono}
use lib.Ieee.Nearest.{div_same}
use lib.Ieee.Positive.{positive_of_value, values_of_le}
use lib.Ieee.Scale.{round_same, grid, finite, grid_scale, normal_of_fraction}
use Rattle.numbers.specs.Numbers.{◌⊕◌, ◌⊗◌, -0}
use Rattle.numbers.specs.Rounded.{IsUnits}
use Rattle.numbers.specs.Root.{floor_root, root_of}
use Rattle.numbers.proofs.Correct.{in-units, gap_below, one_value}
use Rattle.numbers.proofs.RootAt.{pow_lt_back}
use Rattle.numbers.proofs.Monotone as root

-- ---- from one fraction to another of the same size
pub same-value : (x : Float) (s : Bool) (a c b d : ℕ) → 0 < c → a * d ≡ b * c → HasValue x s a c → HasValue x s b d
same-value nan s a c b d C e v = absurd v
same-value (inf t) s a c b d C e v = absurd v
same-value (fin t m e) s a c b d C h v = (
  v.0,
  eq_of_mul-eq-mul_right c C (m * up e * d) (b * down e)
      (mul_right_comm (m * up e) d c ∙ ap (λ (x : ℕ). x * d) v.1 ∙ mul_right_comm a (down e) d ∙ ap (λ (x : ℕ). x * down e) h ∙ mul_right_comm b c (down e)),
)

-- ---- a rounded fraction that is finite, in units
of-units : (s : Bool) (q k : ℕ) → T (finite (units binary64 s q k)) → HasValue (units binary64 s q k) s (q * 2 ^ k) (2 ^ 1074)
unfolding units
of-units s q k = go (ltb (q * 2 ^ k) (2 ^ 2098))
  where
    go : (b : Bool) → T (finite (cond b (odd 54 s q k 1074) (inf s))) → HasValue (cond b (odd 54 s q k 1074) (inf s)) s (q * 2 ^ k) (2 ^ 1074)
    go true t = odd_sign 54 s q k 1074
    go false t = absurd t

pub round-units : (s : Bool) (a c : ℕ) → T (finite (round binary64 s a c)) → HasValue (round binary64 s a c) s (grid binary64 a c) (2 ^ 1074)
round-units s a c t =
    subst (λ (z : Float). HasValue z s (grid binary64 a c) (2 ^ 1074)) (sym (round_is binary64 s a c))
    (of-units s (kept 53 (a * 2 ^ 1074) c) (drop 53 (a * 2 ^ 1074) c) (subst (λ (z : Float). T (finite z)) (round_is binary64 s a c) t))

-- ---- 2 ^ t times a fraction in the normal range
pub round-twos : (a c t : ℕ) → 0 < c → 2 ^ 52 * c ≤ a * 2 ^ 1074 → T (finite (round binary64 false a c)) → T (finite (round binary64 false (a * 2 ^ t) c))
    → IsUnits (round binary64 false a c) (grid binary64 a c) × IsUnits (round binary64 false (a * 2 ^ t) c) (grid binary64 a c * 2 ^ t)
round-twos a c t C n f g = (
  round-units false a c f,
  subst (λ (z : ℕ). IsUnits (round binary64 false (a * 2 ^ t) c) z) (grid_scale binary64 a c t C (normal_of_fraction binary64 a c C n)) (round-units false (a * 2 ^ t) c g),
)

-- ---- an f64 is what it rounds to
pub rounds-back : (x : Float) (n : ℕ) → T (fits binary64 x) → IsUnits x n → n < 2 ^ 2098 → round binary64 false n (2 ^ 1074) ≡ x
rounds-back x n f v l =
    let u = in-units x n f v in
    one_value (round binary64 false n (2 ^ 1074)) x n (round-fits binary64 false n (2 ^ 1074)) f
    (round_exact binary64 false n (2 ^ 1074) u.0 u.1 (pow_pos 1074) u.2 (lt_of_le_of_lt (le_of_eq (sym u.3)) l) (ap (λ (z : ℕ). z * 2 ^ 1074) u.3))
    v

-- ---- the square of x, which is n units in size
pub square-is : (x : Float) (s : Bool) (n : ℕ) → HasValue x s n (2 ^ 1074) → x ⊗ x ≡ round binary64 false (n * n) (2 ^ 1074 * 2 ^ 1074)
unfolding mul
square-is nan s n v = absurd v
square-is (inf t) s n v = absurd v
square-is (fin true m e) s n v = round_same binary64 false (m * up e * (m * up e)) (down e * down e) (n * n) (2 ^ 1074 * 2 ^ 1074) (mul-pos (down_pos e) (down_pos e)) (mul-pos (pow_pos 1074) (pow_pos 1074))
    (mul-mul-mul_comm (m * up e) (m * up e) (2 ^ 1074) (2 ^ 1074) ∙ ap₂ (λ (x y : ℕ). x * y) v.1 v.1 ∙ mul-mul-mul_comm n (down e) n (down e))
square-is (fin false m e) s n v = round_same binary64 false (m * up e * (m * up e)) (down e * down e) (n * n) (2 ^ 1074 * 2 ^ 1074) (mul-pos (down_pos e) (down_pos e)) (mul-pos (pow_pos 1074) (pow_pos 1074))
    (mul-mul-mul_comm (m * up e) (m * up e) (2 ^ 1074) (2 ^ 1074) ∙ ap₂ (λ (x y : ℕ). x * y) v.1 v.1 ∙ mul-mul-mul_comm n (down e) n (down e))

-- ---- the sum of two that are not negative, and of -0 and one
pub sum_is : (x y : Float) (a b : ℕ) → IsUnits x a → IsUnits y b → x ⊕ y ≡ round binary64 false (a + b) (2 ^ 1074)
unfolding add sum
sum_is nan y a b v w = absurd v
sum_is (inf s) y a b v w = absurd v
sum_is (fin true m e) y a b v w = absurd (true≢false v.0)
sum_is (fin false m e) nan a b v w = absurd w
sum_is (fin false m e) (inf s) a b v w = absurd w
sum_is (fin false m e) (fin true n d) a b v w = absurd (true≢false w.0)
sum_is (fin false m e) (fin false n d) a b v w =
    round_same binary64 false (m * up e * down d + n * up d * down e) (down e * down d) (a + b) (2 ^ 1074) (mul-pos (down_pos e) (down_pos d)) (pow_pos 1074)
    (cross (m * up e) (n * up d) (down e) (down d) (2 ^ 1074) a b v.1 w.1)
  where
    cross : (x y p q u a b : ℕ) → x * u ≡ a * p → y * u ≡ b * q → (x * q + y * p) * u ≡ (a + b) * (p * q)
    cross x y p q u a b v w =
        add-mul (x * q) (y * p) u
        ∙ ap₂ (λ (s t : ℕ). s + t) (mul_right_comm x q u ∙ ap (λ (z : ℕ). z * q) v ∙ mul_assoc a p q) (mul_right_comm y p u ∙ ap (λ (z : ℕ). z * p) w ∙ mul_assoc b q p ∙ ap (λ (z : ℕ). b * z) (mul_comm q p))
        ∙ sym (add-mul a b (p * q))

pub sum_first : (y : Float) (b : ℕ) → IsUnits y b → -0 ⊕ y ≡ round binary64 false b (2 ^ 1074)
unfolding add sum
sum_first nan b w = absurd w
sum_first (inf s) b w = absurd w
sum_first (fin true n d) b w = absurd (true≢false w.0)
sum_first (fin false n d) b w = go (n * up d * 1) (1 * down d) (0 * down d) (zero-mul (down d)) (mul-pos (pow_pos 0) (down_pos d)) (ap (λ (z : ℕ). z * 2 ^ 1074) (mul-one (n * up d)) ∙ w.1 ∙ ap (λ (z : ℕ). b * z) (sym (one-mul (down d))))
  where
    go : (B c o : ℕ) → o ≡ 0 → 0 < c → B * 2 ^ 1074 ≡ b * c → cond (ltb o B) (round binary64 false (B - o) c) (round binary64 (ltb B o) (o - B) c) ≡ round binary64 false b (2 ^ 1074)
    go B c o z C h = subst (λ (o : ℕ). cond (ltb o B) (round binary64 false (B - o) c) (round binary64 (ltb B o) (o - B) c) ≡ round binary64 false b (2 ^ 1074)) (sym z) (at_zero B h)
      where
        at_zero : (B : ℕ) → B * 2 ^ 1074 ≡ b * c → cond (ltb 0 B) (round binary64 false (B - 0) c) (round binary64 (ltb B 0) (0 - B) c) ≡ round binary64 false b (2 ^ 1074)
        at_zero zero h = round_same binary64 false 0 c b (2 ^ 1074) C (pow_pos 1074) h
        at_zero (suc B) h =
            ap (λ (t : Bool). cond t (round binary64 false (suc B - 0) c) (round binary64 (ltb (suc B) 0) (0 - suc B) c)) (is_true (ltb 0 (suc B)) (lt→ltb 0 (suc B) (zero-lt-suc B)))
            ∙ round_same binary64 false (suc B - 0) c b (2 ^ 1074) C (pow_pos 1074) (ap (λ (z : ℕ). z * 2 ^ 1074) (sub-zero (suc B)) ∙ h)

-- ---- an f64's digits, whatever its sign
pub digits_of : (x : Float) (s : Bool) (n : ℕ) → T (fits binary64 x) → HasValue x s n (2 ^ 1074) → (q : ℕ) × (i : ℕ) × (q < 2 ^ 53) × (n ≡ q * 2 ^ i)
unfolding neg
digits_of nan s n f v = absurd v
digits_of (inf t) s n f v = absurd v
digits_of (fin false m e) s n f v = in-units (fin false m e) n f (refl, v.1)
digits_of (fin true m e) s n f v = in-units (fin false m e) n (neg-fits binary64 (fin true m e) f) (refl, v.1)

-- ---- where the square is in the normal range as rounded, x is 2 ^ -511 at least: the next f64 below has a square that rounds to 2 ^ -1022 - 2 ^ -1074
below-square : round binary64 false ((2 ^ 563 - 2 ^ 510) * (2 ^ 563 - 2 ^ 510)) (2 ^ 1074 * 2 ^ 1074) ≡ fin false 4503599627370495 (negsuc 1073)
unfolding round size units odd span climb count_trailing_zeros
below-square = refl

pub root-range : (x : Float) (s : Bool) (n : ℕ) → T (fits binary64 x) → HasValue x s n (2 ^ 1074) → T (finite (round binary64 false (n * n) (2 ^ 1074 * 2 ^ 1074)))
    → 2 ^ 52 ≤ grid binary64 (n * n) (2 ^ 1074 * 2 ^ 1074) → 2 ^ 563 ≤ n
root-range x s n f v t h = not-less n (2 ^ 563) (λ (l : n < 2 ^ 563). not-le_of_lt (clash l) h)
  where
    not-less : (a b : ℕ) → (a < b → ⊥) → b ≤ a
    not-less a b h = omega arith

    room : (n a b : ℕ) → n + a ≤ b → n ≤ b - a
    room n a b h = omega arith

    below_next : (g : ℕ) → g ≤ 4503599627370495 → g < 2 ^ 52
    below_next g h = omega arith

    clash : n < 2 ^ 563 → grid binary64 (n * n) (2 ^ 1074 * 2 ^ 1074) < 2 ^ 52
    clash l =
        let g = grid binary64 (n * n) (2 ^ 1074 * 2 ^ 1074) in
        let u = digits_of x s n f v in
        let far : n + 2 ^ 510 ≤ 2 ^ 563 = subst (λ (z : ℕ). z + 2 ^ 510 ≤ 2 ^ 563) (sym u.3) (gap_below (2 ^ 53) 510 u.0 u.1 (lit≤ tt) u.2 (lt_of_le_of_lt (le_of_eq (sym u.3)) l)) in
        let below : n ≤ 2 ^ 563 - 2 ^ 510 = room n (2 ^ 510) (2 ^ 563) far in
        let r = round binary64 false (n * n) (2 ^ 1074 * 2 ^ 1074) in
        let order : T (ieee.le r (fin false 4503599627370495 (negsuc 1073))) =
        subst (λ (z : Float). T (ieee.le r z)) below-square
        (round_mono binary64 (n * n) (2 ^ 1074 * 2 ^ 1074) ((2 ^ 563 - 2 ^ 510) * (2 ^ 563 - 2 ^ 510)) (2 ^ 1074 * 2 ^ 1074) (mul-pos (pow_pos 1074) (pow_pos 1074)) (mul-pos (pow_pos 1074) (pow_pos 1074)) (mul-le-mul_right (2 ^ 1074 * 2 ^ 1074) (mul-le-mul below below))) in
        let value : HasValue r false g (2 ^ 1074) = round-units false (n * n) (2 ^ 1074 * 2 ^ 1074) t in
        ⊎_elim
        (λ (z : g ≡ 0). subst (λ (k : ℕ). k < 2 ^ 52) (sym z) (pow_pos 52))
        (λ (p : 0 < g).
        below_next g
        (le_of_mul-le-mul_right
        (values_of_le r (fin false 4503599627370495 (negsuc 1073)) g (2 ^ 1074) 4503599627370495 (2 ^ 1074) (positive_of_value r g (2 ^ 1074) value p) tt value (refl, refl) order) (pow_pos 1074)))
        (eq-zero-or-pos g)

-- ---- the root of 4 ^ t times n is 2 ^ t times the root of n
size-twos : (w t : ℕ) → 0 < size w → size (w * 2 ^ t) ≡ size w + t
size-twos w t Z =
    let z = size w in
    le_antisymm
    (size-le (w * 2 ^ t) (z + t) (lt_of_lt_of_le (mul-lt-mul_of_pos_right (size-lt w) (pow_pos t)) (le_of_eq (sym (pow-add 2 z t)))))
    (more z t (size (w * 2 ^ t)) Z
    (pow_lt_back (z - 1 + t) (size (w * 2 ^ t)) (lt_of_le_of_lt (le_trans (le_of_eq (pow-add 2 (z - 1) t)) (mul-le-mul_right (2 ^ t) (size_reaches w (z - 1) (pred z Z)))) (size-lt (w * 2 ^ t)))))
  where
    pred : (z : ℕ) → 0 < z → z - 1 < z
    pred z h = omega arith

    more : (z t x : ℕ) → 0 < z → z - 1 + t < x → z + t ≤ x
    more z t x Z h = omega arith

module _ (w t : ℕ) (long : 106 < size w) where
  drop-twos : root.drop (w * 2 ^ (2 * t)) ≡ root.drop w + t
  drop-twos = ap (λ (z : ℕ). (z + 1) / 2 - 53) (size-twos w (2 * t) (some (size w) long)) ∙ half (size w) t long
    where
      some : (z : ℕ) → 106 < z → 0 < z
      some z h = omega arith

      half : (z t : ℕ) → 106 < z → (z + 2 * t + 1) / 2 - 53 ≡ (z + 1) / 2 - 53 + t
      half z t h = omega arith

  scaled-twos : root.scaled (w * 2 ^ (2 * t)) ≡ root.scaled w
  scaled-twos =
      ap (λ (d : ℕ). 4 * (w * 2 ^ (2 * t)) / 2 ^ (2 * d)) drop-twos
      ∙ ap (λ (d : ℕ). 4 * (w * 2 ^ (2 * t)) / 2 ^ d) (twice (root.drop w) t)
      ∙ div_same (4 * (w * 2 ^ (2 * t))) (2 ^ (2 * root.drop w + 2 * t)) (4 * w) (2 ^ (2 * root.drop w)) (pow_pos (2 * root.drop w + 2 * t)) (pow_pos (2 * root.drop w))
      (ap (λ (z : ℕ). z * 2 ^ (2 * root.drop w)) (sym (mul_assoc 4 w (2 ^ (2 * t)))) ∙ mul_assoc (4 * w) (2 ^ (2 * t)) (2 ^ (2 * root.drop w)) ∙ ap (λ (z : ℕ). 4 * w * z) (mul_comm (2 ^ (2 * t)) (2 ^ (2 * root.drop w)) ∙ sym (pow-add 2 (2 * root.drop w) (2 * t))))
    where
      twice : (d t : ℕ) → 2 * (d + t) ≡ 2 * d + 2 * t
      twice d t = omega arith

-- the root of n in units
abbrev pub root_units : ℕ → ℕ
root_units n = root.kept (n * 2 ^ 1074) * 2 ^ root.drop (n * 2 ^ 1074)

pub root-twos : (n t : ℕ) → 0 < n → IsUnits (root_of (n * 2 ^ (2 * t))) (root_units n * 2 ^ t)
root-twos n t h =
    let w = n * 2 ^ 1074 in
    let long = root.long-enough n h in
    let e : n * 2 ^ (2 * t) * 2 ^ 1074 ≡ w * 2 ^ (2 * t) = mul_right_comm n (2 ^ (2 * t)) (2 ^ 1074) in
    subst (λ (z : ℕ). IsUnits (root_of (n * 2 ^ (2 * t))) z)
    (ap (λ (z : ℕ). root.kept z * 2 ^ root.drop z) e
    ∙ ap₂ (λ (a b : ℕ). (floor_root 54 a + 1) / 2 * 2 ^ b) (scaled-twos w t long) (drop-twos w t long)
    ∙ ap (λ (z : ℕ). root.kept w * z) (pow-add 2 (root.drop w) t)
    ∙ sym (mul_assoc (root.kept w) (2 ^ root.drop w) (2 ^ t)))
    (root.root-value (n * 2 ^ (2 * t)))
