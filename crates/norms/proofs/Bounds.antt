-- Bounds of rounded fractions in units of 2 ^ -1074, and what is too small to change a sum.
use mathlib.Core.Path.{◌≡◌, refl, sym, ap, ap₂, ◌∙◌, subst}
use mathlib.Core.Logic.{◌⊎◌, inl, inr, ⊎_elim}
use Prim.Native.Nat.{ℕ, suc, ◌+◌, ◌-◌, ◌*◌, ◌^◌, ◌≤◌, ◌<◌, zero-le, compare, Ordering}
use native.Mathlib.Nat.{le_trans, le_of_eq, le_of_lt, lt_of_lt_of_le, lt_of_le_of_lt, zero-lt-suc, eq-zero-or-pos, one-mul, mul_comm, mul_assoc, mul-le-mul_right, mul-lt-mul_of_pos_right, lt_of_mul-lt-mul_right, le_of_mul-le-mul_right, mul-pos, mul-div_cancel, suc-mul}
use native.Mathlib.Omega.{arith}
use mathlib.Core.Bool.{Bool, true, false, not, cond}
use lib.Dec.{T, is_le, compare_is_eq, ltb, leb, le→leb, eqb→eq, leb→le, nleb→lt}
use lib.Pow.{pow-add, pow_pos, pow-lt, high, low}
use lib.Ieee.{Float, nan, inf, fin, binary64, size, odd, units, round, nearest, le}
use lib.Ieee.Digits.{size-lt, size_reaches}
use lib.Ieee.Exact.{round_exact, odd_sign}
use lib.Ieee.Fits.{round_is}
use lib.Ieee.Nearest.{closest, closest_same}
use lib.Ieee.Order.{drop, kept, round_mono}
use lib.Ieee.Positive.{positive, above, above_of_le, positive_of_value, values_of_le}
use lib.Ieee.Scale.{grid, finite}
use Rattle.numbers.specs.Rounded.{IsUnits}
use Rattle.numbers.proofs.RootAt.{pow_lt_back, size_exact}
use Rattle.norms.proofs.Units.{round-units}

-- ---- either, for two numbers
pub order : (a b : ℕ) → (a ≤ b) ⊎ (b < a)
order a b = go (leb a b) (leb→le a b) (nleb→lt a b)
  where
    go : (t : Bool) → (T t → a ≤ b) → (T (not t) → b < a) → (a ≤ b) ⊎ (b < a)
    go true y n = inl (y tt)
    go false y n = inr (n tt)

-- ---- a rounded fraction is finite or the infinity
finite-or-inf : (a c : ℕ) → T (finite (round binary64 false a c)) ⊎ (round binary64 false a c ≡ inf false)
finite-or-inf a c =
    subst (λ (z : Float). T (finite z) ⊎ (z ≡ inf false)) (sym (round_is binary64 false a c)) (of-units (kept 53 (a * 2 ^ 1074) c) (drop 53 (a * 2 ^ 1074) c))
  where
    of-odd : (q k : ℕ) → T (finite (odd 54 false q k 1074))
    of-odd q k = has (odd 54 false q k 1074) (q * 2 ^ k) (odd_sign 54 false q k 1074)
      where
        has : (x : Float) (n : ℕ) → IsUnits x n → T (finite x)
        has nan n v = absurd v
        has (inf s) n v = absurd v
        has (fin s m e) n v = tt

    of-units : (q k : ℕ) → T (finite (units binary64 false q k)) ⊎ (units binary64 false q k ≡ inf false)
    of-units q k = unfold units in go (ltb (q * 2 ^ k) (2 ^ 2098))
      where
        go : (b : Bool) → T (finite (cond b (odd 54 false q k 1074) (inf false))) ⊎ (cond b (odd 54 false q k 1074) (inf false) ≡ inf false)
        go true = inl (of-odd q k)
        go false = inr refl

pub inf-over : (y : Float) (n : ℕ) → IsUnits y n → T (le (inf false) y) → ⊥
unfolding le
inf-over nan n v t = v
inf-over (inf s) n v t = v
inf-over (fin s m e) n v t = t

-- ---- order in units
pub units-le : (x y : Float) (a b : ℕ) → IsUnits x a → IsUnits y b → T (le x y) → a ≤ b
units-le x y a b v w t = ⊎_elim
    (λ (z : a ≡ 0). subst (λ (k : ℕ). k ≤ b) (sym z) zero-le)
    (λ (p : 0 < a).
    le_of_mul-le-mul_right (values_of_le x y a (2 ^ 1074) b (2 ^ 1074) (positive_of_value x a (2 ^ 1074) v p) (above-positive y b w (above_of_le x y (positive_of_value x a (2 ^ 1074) v p) t)) v w t) (pow_pos 1074))
    (eq-zero-or-pos a)
  where
    above-positive : (y : Float) (b : ℕ) → IsUnits y b → T (above y) → T (positive y)
    above-positive nan b w t = absurd w
    above-positive (inf s) b w t = absurd w
    above-positive (fin true m e) b w t = t
    above-positive (fin false m e) b w t = t

-- ---- powers of two round to themselves
power-units : (E : ℕ) → E < 2098 → IsUnits (round binary64 false (2 ^ E) (2 ^ 1074)) (2 ^ E)
power-units E h =
    round_exact binary64 false (2 ^ E) (2 ^ 1074) 1 E (pow_pos 1074) (pow-lt {i = 0} {j = 53} (zero-lt-suc 52)) (lt_of_le_of_lt (le_of_eq (one-mul (2 ^ E))) (pow-lt h)) (ap (λ (z : ℕ). z * 2 ^ 1074) (sym (one-mul (2 ^ E))))

-- a / c is at most 2 ^ E units
pub round-upper : (a c E : ℕ) → 0 < c → E < 2098 → a * 2 ^ 1074 ≤ 2 ^ E * c → T (finite (round binary64 false a c)) × (grid binary64 a c ≤ 2 ^ E)
round-upper a c E C h l =
    let p = round binary64 false (2 ^ E) (2 ^ 1074) in
    let o : T (le (round binary64 false a c) p) = round_mono binary64 a c (2 ^ E) (2 ^ 1074) C (pow_pos 1074) l in
    let f : T (finite (round binary64 false a c)) = ⊎_elim (λ (t : T (finite (round binary64 false a c))). t) (λ (e : round binary64 false a c ≡ inf false). absurd (inf-over p (2 ^ E) (power-units E h) (subst (λ (z : Float). T (le z p)) e o))) (finite-or-inf a c) in
    (f, units-le (round binary64 false a c) p (grid binary64 a c) (2 ^ E) (round-units false a c f) (power-units E h) o)

-- a / c is at least 2 ^ E units
pub round-lower : (a c E : ℕ) → 0 < c → E < 2098 → 2 ^ E * c ≤ a * 2 ^ 1074 → T (finite (round binary64 false a c)) → 2 ^ E ≤ grid binary64 a c
round-lower a c E C h l f =
    units-le (round binary64 false (2 ^ E) (2 ^ 1074)) (round binary64 false a c) (2 ^ E) (grid binary64 a c) (power-units E h) (round-units false a c f)
    (round_mono binary64 (2 ^ E) (2 ^ 1074) a c (pow_pos 1074) C l)

-- ---- what is less than half a place is not seen
compare-lt : (x y : ℕ) → x < y → compare x y ≡ Ordering.lt
compare-lt x y h = go (compare x y) (le→leb x y (le_of_lt h)) (λ t. clash x y h (eqb→eq x y t))
  where
    clash : (x y : ℕ) → x < y → x ≡ y → ⊥
    clash x y h e = omega arith

    go : (o : Ordering) → T (is_le o) → (T (compare_is_eq o) → ⊥) → o ≡ Ordering.lt
    go Ordering.lt l n = refl
    go Ordering.eq l n = absurd (n tt)
    go Ordering.gt l n = absurd l

closest-at : (C a k : ℕ) → a * 2 < 2 ^ k → closest (C * 2 ^ k + a) (2 ^ k) ≡ C
closest-at C a k h =
    let l : a < 2 ^ k = half a (2 ^ k) h in
    ap₂ (λ (q r : ℕ). nearest q (compare (r * 2) (2 ^ k))) (high C k l) (low C k l) ∙ ap (nearest C) (compare-lt (a * 2) (2 ^ k) h)
  where
    half : (a u : ℕ) → a * 2 < u → a < u
    half a u h = omega arith

module _ (c a q i : ℕ) (e : c ≡ q * 2 ^ i) (few : q < 2 ^ 53) (normal : 2 ^ 52 ≤ c) (tiny : a * 2 ^ 54 ≤ c) where
  abbrev k : ℕ
  k = size c - 53

  long : 52 < size c
  long = pow_lt_back 52 (size c) (lt_of_le_of_lt normal (size-lt c))

  z-is : size c ≡ 53 + k
  z-is = back (size c) long
    where
      back : (z : ℕ) → 52 < z → z ≡ 53 + (z - 53)
      back z h = omega arith

  c_ge : 2 ^ (52 + k) ≤ c
  c_ge = size_reaches c (52 + k) (lt_of_lt_of_le (step k) (le_of_eq (sym z-is)))
    where
      step : (k : ℕ) → 52 + k < 53 + k
      step k = omega arith

  c_lt : c < 2 ^ 53 * 2 ^ k
  c_lt = lt_of_lt_of_le (size-lt c) (le_of_eq (ap (λ (n : ℕ). 2 ^ n) z-is ∙ pow-add 2 53 k))

  k-le : k ≤ i
  k-le = fewer k i (pow_lt_back (52 + k) (53 + i) (lt_of_le_of_lt (le_trans c_ge (le_of_eq e)) (lt_of_lt_of_le (mul-lt-mul_of_pos_right few (pow_pos i)) (le_of_eq (sym (pow-add 2 53 i))))))
    where
      fewer : (t i : ℕ) → 52 + t < 53 + i → t ≤ i
      fewer t i h = omega arith

  abbrev C : ℕ
  C = q * 2 ^ (i - k)

  c-is : c ≡ C * 2 ^ k
  c-is = e ∙ ap (λ (n : ℕ). q * 2 ^ n) (back i k k-le) ∙ ap (λ (n : ℕ). q * n) (pow-add 2 (i - k) k) ∙ sym (mul_assoc q (2 ^ (i - k)) (2 ^ k))
    where
      back : (i t : ℕ) → t ≤ i → i ≡ i - t + t
      back i t h = omega arith

  half : a * 2 < 2 ^ k
  half = lt_of_mul-lt-mul_right (2 ^ 53) (lt_of_le_of_lt (le_trans (le_of_eq (mul_assoc a 2 (2 ^ 53))) tiny) (lt_of_lt_of_le c_lt (le_of_eq (mul_comm (2 ^ 53) (2 ^ k)))))

  C-lt : C < 2 ^ 53
  C-lt = lt_of_mul-lt-mul_right (2 ^ k) (lt_of_le_of_lt (le_of_eq (sym c-is)) c_lt)

  sum_lt : c + a < 2 ^ suc (52 + k)
  sum_lt =
      lt_of_lt_of_le (lt_of_le_of_lt (le_of_eq (ap (λ (n : ℕ). n + a) c-is)) (next (C * 2 ^ k) a (2 ^ k) half))
      (le_trans (le_of_eq (sym (suc-mul C (2 ^ k)))) (le_trans (mul-le-mul_right (2 ^ k) C-lt) (le_of_eq (sym (pow-add 2 53 k) ∙ ap (λ (n : ℕ). 2 ^ n) (same k)))))
    where
      next : (x a u : ℕ) → a * 2 < u → x + a < x + u
      next x a u h = omega arith

      same : (k : ℕ) → 53 + k ≡ suc (52 + k)
      same k = omega arith

  size_is : size (c + a) - 53 ≡ k
  size_is = ap (λ (n : ℕ). n - 53) (size_exact (52 + k) (c + a) (le_trans c_ge (more c a)) sum_lt) ∙ less k
    where
      more : (c a : ℕ) → c ≤ c + a
      more c a = omega arith

      less : (k : ℕ) → suc (52 + k) - 53 ≡ k
      less k = omega arith

  pub absorbs : grid binary64 (c + a) (2 ^ 1074) ≡ c
  absorbs =
      let n = (c + a) * 2 ^ 1074 in
      let d : drop 53 n (2 ^ 1074) ≡ k = ap (λ (x : ℕ). size x - 53) (mul-div_cancel (c + a) (pow_pos 1074)) ∙ size_is in
      ap (λ (j : ℕ). closest n (2 ^ 1074 * 2 ^ j) * 2 ^ j) d
      ∙ ap (λ (x : ℕ). x * 2 ^ k)
      (closest_same n (2 ^ 1074 * 2 ^ k) (c + a) (2 ^ k) (mul-pos (pow_pos 1074) (pow_pos k)) (pow_pos k) (mul_assoc (c + a) (2 ^ 1074) (2 ^ k))
      ∙ ap (λ (x : ℕ). closest (x + a) (2 ^ k)) c-is
      ∙ closest-at C a k half)
      ∙ sym c-is
