-- `sqrt_of` is correctly rounded, and what is correctly rounded is one value only: the statements are in `specs/Rounded.antt`.
use mathlib.Core.Path.{◌≡◌, refl, sym, ap, ◌∙◌, subst}
use mathlib.Core.Logic.{◌⊎◌, inl, inr, ⊎_elim}
use Prim.Native.Nat.{ℕ, zero, suc, ◌+◌, ◌-◌, ◌*◌, ◌/◌, ◌%◌, ◌^◌, ◌≤◌, ◌<◌, zero-le}
use native.Mathlib.Nat.{suc-mul, lt_trans, zero-add, add_comm, le_antisymm, mul-div_cancel, zero-mul, eq_of_mul-eq-mul_right, eq-zero-or-pos, le_trans, le_of_eq, le_of_lt, lt_of_lt_of_le, lt_of_le_of_lt, not-le_of_lt, lt_irrefl, mul-one, one-mul, mul_comm, mul_assoc, mul-le-mul, mul-le-mul_left, mul-le-mul_right, mul-lt-mul_of_pos_right, mul-pos, lt_of_mul-lt-mul_right, zero-lt-suc, pow-succ'}
use native.Mathlib.Omega.{arith}
use mathlib.Core.Bool.{Bool, true, false, not, ◌&&◌, true≢false}
use lib.IntN.{ℤ, pos, negsuc}
use lib.Dec.{T, eqb, ltb, leb, ltb→lt, leb→le, nleb→lt}
use lib.Pow.{pow-add, pow_pos, pow_mono}
use lib.Ieee.{Float, nan, inf, fin, binary64, up, down, size, odd, fits, to_bits, of_bits}
use lib.Ieee.Bits.{of_bits-to_bits, of_bits-fits}
use lib.Ieee.Exact.{odd_sign}
use lib.Ieee.Fits.{and_l, and_r, down_pos}
use Rattle.numbers.specs.Root.{sqrt_of}
use Rattle.numbers.specs.Rounded.{IsUnits, AllInUnits, NearestRoot, CorrectlyRounded, WithinHalfPlace, OnlyOne, Specials}
use Rattle.numbers.proofs.FloorRoot.{Floor}
use Rattle.numbers.proofs.RootAt.{scaled, twice, shift, zeros-le, shifted-ge, shifted-lt, floor-is, twice-ge, twice-lt, root-at, split-up, pow_lt_back}
use Rattle.numbers.proofs.Patterns.{written, sqrt-plus}

-- ---- an f64 that is finite and not negative is q * 2 ^ i units, q of 53 digits at most
pow_le_back : (a l : ℕ) → 2 ^ a ≤ 2 ^ l → a ≤ l
pow_le_back a l h = below a l (pow_lt_back a (suc l) (lt_of_le_of_lt h (twice-lt' l)))
  where
    below : (a l : ℕ) → a < suc l → a ≤ l
    below a l h = omega arith

    twice-lt' : (l : ℕ) → 2 ^ l < 2 ^ suc l
    twice-lt' l = let e : 2 ^ suc l ≡ 2 * 2 ^ l = pow-succ' 2 l in let p : 0 < 2 ^ l = pow_pos l in omega arith

pub place : (e : ℤ) → down e ≤ 2 ^ 1074 → (i : ℕ) × ((m : ℕ) → m * up e * 2 ^ 1074 ≡ m * 2 ^ i * down e)
place (pos a) h = (a + 1074, λ m. mul_assoc m (2 ^ a) (2 ^ 1074) ∙ ap (λ (x : ℕ). m * x) (sym (pow-add 2 a 1074)) ∙ sym (mul-one (m * 2 ^ (a + 1074))))
place (negsuc a) h =
    let i = 1074 - suc a in
    let le : suc a ≤ 1074 = pow_le_back (suc a) 1074 h in
    let e : i + suc a ≡ 1074 = omega arith in
    (i, λ m. ap (λ (x : ℕ). x * 2 ^ 1074) (mul-one m) ∙ ap (λ (x : ℕ). m * 2 ^ x) (sym e) ∙ ap (λ (x : ℕ). m * x) (pow-add 2 i (suc a)) ∙ sym (mul_assoc m (2 ^ i) (2 ^ suc a)))

-- what `fits` says of a number that is not zero
module _ (s : Bool) (m : ℕ) (e : ℤ) (h : T (fits binary64 (fin s (suc m) e))) where
  tests : T (eqb (suc m % 2) 1 && ltb (suc m) (2 ^ 53) && leb (down e) (2 ^ 1074) && ltb (suc m * up e) (2 ^ 1024 * down e))
  unfolding fits
  tests = h

  pub few : suc m < 2 ^ 53
  few = ltb→lt (suc m) (2 ^ 53) (and_r (eqb (suc m % 2) 1) (ltb (suc m) (2 ^ 53)) (and_l (eqb (suc m % 2) 1 && ltb (suc m) (2 ^ 53)) (leb (down e) (2 ^ 1074)) (and_l (eqb (suc m % 2) 1 && ltb (suc m) (2 ^ 53) && leb (down e) (2 ^ 1074)) (ltb (suc m * up e) (2 ^ 1024 * down e)) tests)))

  pub high : down e ≤ 2 ^ 1074
  high = leb→le (down e) (2 ^ 1074) (and_r (eqb (suc m % 2) 1 && ltb (suc m) (2 ^ 53)) (leb (down e) (2 ^ 1074)) (and_l (eqb (suc m % 2) 1 && ltb (suc m) (2 ^ 53) && leb (down e) (2 ^ 1074)) (ltb (suc m * up e) (2 ^ 1024 * down e)) tests))

  pub under : suc m * up e < 2 ^ 1024 * down e
  under = ltb→lt (suc m * up e) (2 ^ 1024 * down e) (and_r (eqb (suc m % 2) 1 && ltb (suc m) (2 ^ 53) && leb (down e) (2 ^ 1074)) (ltb (suc m * up e) (2 ^ 1024 * down e)) tests)

  -- the exponent in units, and its bound
  abbrev pub exponent : ℕ
  exponent = (place e high).0

  pub exponent_lt : exponent < 2098
  exponent_lt = pow_lt_back exponent 2098 (lt_of_mul-lt-mul_right (down e)
      (lt_of_le_of_lt (mul-le-mul_right (down e) (le_trans (le_of_eq (sym (one-mul (2 ^ exponent)))) (mul-le-mul_right (2 ^ exponent) (zero-lt-suc' m))))
      (lt_of_le_of_lt (le_of_eq (sym ((place e high).1 (suc m)))) (lt_of_lt_of_le (mul-lt-mul_of_pos_right under (pow_pos 1074)) (le_of_eq (regroup (2 ^ 1024) (down e) (2 ^ 1074)))))))
    where
      zero-lt-suc' : (m : ℕ) → 1 ≤ suc m
      zero-lt-suc' m = zero-lt-suc m

      regroup : (a b c : ℕ) → a * b * c ≡ a * c * b
      regroup a b c = mul_assoc a b c ∙ ap (λ (x : ℕ). a * x) (mul_comm b c) ∙ sym (mul_assoc a c b)

-- ---- no f64 lies within a place of c * 2 ^ k, on the side where c's places go on
order : (k i : ℕ) → (k ≤ i) ⊎ (i < k)
order k i = go (leb k i) (leb→le k i) (nleb→lt k i)
  where
    go : (b : Bool) → (T b → k ≤ i) → (T (not b) → i < k) → (k ≤ i) ⊎ (i < k)
    go true y z = inl (y tt)
    go false y z = inr (z tt)

-- q * 2 ^ i as a number of places of 2 ^ k
more-places : (q k i : ℕ) → k ≤ i → q * 2 ^ i ≡ q * 2 ^ (i - k) * 2 ^ k
more-places q k i h = ap (λ (x : ℕ). q * 2 ^ x) (back k i h) ∙ ap (λ (x : ℕ). q * x) (pow-add 2 (i - k) k) ∙ sym (mul_assoc q (2 ^ (i - k)) (2 ^ k))
  where
    back : (k i : ℕ) → k ≤ i → i ≡ i - k + k
    back k i h = omega arith

fewer-places : (q k i : ℕ) → i < k → q < 2 ^ 53 → q * 2 ^ i < 2 ^ 52 * 2 ^ k
fewer-places q k i h l =
    lt_of_lt_of_le (mul-lt-mul_of_pos_right l (pow_pos i))
    (le_trans (le_of_eq (mul_assoc (2 ^ 52) 2 (2 ^ i) ∙ ap (λ (x : ℕ). 2 ^ 52 * x) (sym (pow-succ' 2 i)))) (mul-le-mul_left (2 ^ 52) (pow_mono h)))

gap-above : (c k q i : ℕ) → 2 ^ 52 ≤ c → q < 2 ^ 53 → c * 2 ^ k < q * 2 ^ i → c * 2 ^ k + 2 ^ k ≤ q * 2 ^ i
gap-above c k q i a l h = go (order k i)
  where
    go : (k ≤ i) ⊎ (i < k) → c * 2 ^ k + 2 ^ k ≤ q * 2 ^ i
    go (inl g) =
        let e = more-places q k i g in
        le_trans (le_of_eq (sym (suc-mul c (2 ^ k)))) (le_trans (mul-le-mul_right (2 ^ k) (lt_of_mul-lt-mul_right (2 ^ k) (lt_of_lt_of_le h (le_of_eq e)))) (le_of_eq (sym e)))
    go (inr g) = absurd (not-le_of_lt (lt_of_lt_of_le h (le_of_lt (fewer-places q k i g l))) (mul-le-mul_right (2 ^ k) a))

pub gap_below : (c k q i : ℕ) → 2 ^ 52 < c → q < 2 ^ 53 → q * 2 ^ i < c * 2 ^ k → q * 2 ^ i + 2 ^ k ≤ c * 2 ^ k
gap_below c k q i a l h = go (order k i)
  where
    join : (q' K : ℕ) → suc q' ≤ c → q' * K + K ≤ c * K
    join q' K g = le_trans (le_of_eq (sym (suc-mul q' K))) (mul-le-mul_right K g)

    go : (k ≤ i) ⊎ (i < k) → q * 2 ^ i + 2 ^ k ≤ c * 2 ^ k
    go (inl g) =
        let e = more-places q k i g in
        subst (λ (x : ℕ). x + 2 ^ k ≤ c * 2 ^ k) (sym e) (join (q * 2 ^ (i - k)) (2 ^ k) (lt_of_mul-lt-mul_right (2 ^ k) (lt_of_le_of_lt (le_of_eq (sym e)) h)))
    go (inr g) =
        let f : q * 2 ^ i < 2 ^ 52 * 2 ^ k = fewer-places q k i g l in
        let j : 2 ^ 52 * 2 ^ k + 2 ^ k ≤ c * 2 ^ k = join (2 ^ 52) (2 ^ k) a in
        omega arith

-- ---- squares, in places of K
square : (s K : ℕ) → s * K * (s * K) ≡ s * s * (K * K)
square s K = omega arith

square-lt : (a b : ℕ) → a < b → a * a < b * b
square-lt a b h = lt_of_le_of_lt (mul-le-mul_left a (le_of_lt h)) (mul-lt-mul_of_pos_right h (lt_of_le_of_lt (zero-le) h))

module _ (s K Q : ℕ) (some : 0 < K) where
  pub under-strict : (A : ℕ) → A ≤ s * K → s * s < Q → A * A < Q * (K * K)
  under-strict A h l = lt_of_le_of_lt (mul-le-mul h h) (lt_of_le_of_lt (le_of_eq (square s K)) (mul-lt-mul_of_pos_right l (mul-pos some some)))

  pub strict-under : (A : ℕ) → A < s * K → s * s ≤ Q → A * A < Q * (K * K)
  strict-under A h l = lt_of_lt_of_le (square-lt A (s * K) h) (le_trans (le_of_eq (square s K)) (mul-le-mul_right (K * K) l))

  pub over : (A : ℕ) → s * K ≤ A → Q < s * s → Q * (K * K) < A * A
  over A h l = lt_of_lt_of_le (mul-lt-mul_of_pos_right l (mul-pos some some)) (le_trans (le_of_eq (sym (square s K))) (mul-le-mul h h))

-- an odd number's square is no even number
odd-square : (u h : ℕ) → (2 * u + 1) * (2 * u + 1) ≤ 2 * h → (2 * u + 1) * (2 * u + 1) < 2 * h
odd-square u h l =
    let e : (2 * u + 1) * (2 * u + 1) ≡ 2 * (2 * (u * u) + 2 * u) + 1 = omega arith in
    omega arith

-- ---- any f64 that is finite and not negative, in units
no-units : (Y : ℕ) (e : ℤ) → zero * up e * 2 ^ 1074 ≡ Y * down e → Y ≡ 0
no-units zero e h = refl
no-units (suc Y) e h = absurd (lt_irrefl 0 (subst (λ (x : ℕ). 0 < x) (sym h ∙ ap (λ (x : ℕ). x * 2 ^ 1074) (zero-mul (up e)) ∙ zero-mul (2 ^ 1074)) (mul-pos (zero-lt-suc Y) (down_pos e))))

pub in-units : (y : Float) (Y : ℕ) → T (fits binary64 y) → IsUnits y Y → (q : ℕ) × (i : ℕ) × (q < 2 ^ 53) × (Y ≡ q * 2 ^ i)
in-units nan Y h v = absurd v
in-units (inf s) Y h v = absurd v
in-units (fin s zero e) Y h v = (0, 0, pow_pos 53, no-units Y e v.1)
in-units (fin s (suc m) e) Y h v = (
  suc m,
  exponent s m e h,
  few s m e h,
  eq_of_mul-eq-mul_right (down e) (down_pos e) Y (suc m * 2 ^ exponent s m e h) (sym v.1 ∙ (place e (high s m e h)).1 (suc m)),
)

pub all-in-units : AllInUnits
all-in-units zero e h = (0, (refl, ap (λ (x : ℕ). x * 2 ^ 1074) (zero-mul (up e)) ∙ zero-mul (2 ^ 1074) ∙ sym (zero-mul (down e))))
all-in-units (suc m) e h = (suc m * 2 ^ exponent false m e h, (refl, (place e (high false m e h)).1 (suc m)))

-- s is twice c, or one less
parity : (s : ℕ) → (s ≡ 2 * ((s + 1) / 2)) ⊎ (s + 1 ≡ 2 * ((s + 1) / 2))
parity s = ⊎_elim (λ (z : s % 2 ≡ 0). inl (even s z)) (λ (z : 0 < s % 2). inr (odd' s z)) (eq-zero-or-pos (s % 2))
  where
    even : (s : ℕ) → s % 2 ≡ 0 → s ≡ 2 * ((s + 1) / 2)
    even s z = omega arith

    odd' : (s : ℕ) → 0 < s % 2 → s + 1 ≡ 2 * ((s + 1) / 2)
    odd' s z = omega arith

-- Q is even, so an s that is odd is not its root
below-even : (s c a : ℕ) → s + 1 ≡ 2 * c → s * s ≤ a * 2 ^ 54 → s * s < a * 2 ^ 54
below-even s c a e h =
    let f : s ≡ 2 * (c - 1) + 1 = omega arith in
    let w : a * 2 ^ 54 ≡ 2 * (a * 2 ^ 53) = omega arith in
    subst (λ (x : ℕ). x * x < a * 2 ^ 54) (sym f)
    (subst (λ (x : ℕ). (2 * (c - 1) + 1) * (2 * (c - 1) + 1) < x) (sym w)
    (odd-square (c - 1) (a * 2 ^ 53) (subst (λ (x : ℕ). (2 * (c - 1) + 1) * (2 * (c - 1) + 1) ≤ x) w (subst (λ (x : ℕ). x * x ≤ a * 2 ^ 54) f h))))

-- ---- the theorem, for x = m' * 2 ^ e
module _ (m : ℕ) (e : ℤ) (h : T (fits binary64 (fin false (suc m) e))) where
  abbrev j : ℕ
  j = exponent false m e h

  abbrev g : ℕ
  g = shift (suc m)

  abbrev p : ℕ
  p = j + 1022 - g

  abbrev s : ℕ
  s = twice (suc m) g p

  abbrev c : ℕ
  c = (s + 1) / 2

  abbrev k : ℕ
  k = p / 2

  abbrev Q : ℕ
  Q = scaled (suc m) g p * 2 ^ 54

  abbrev X : ℕ
  X = suc m * 2 ^ j

  p-is : p + g ≡ j + 1022
  p-is = omega (arith, zeros-le (suc m) (zero-lt-suc m) (few false m e h))

  ge : 2 ^ 52 ≤ suc m * 2 ^ g
  ge = shifted-ge (suc m) (zero-lt-suc m) (few false m e h)

  lt : suc m * 2 ^ g < 2 ^ 53
  lt = shifted-lt (suc m) (zero-lt-suc m) (few false m e h)

  s-ge : 2 ^ 53 ≤ s
  s-ge = twice-ge (suc m) g p ge lt

  s-lt : s < 2 ^ 54
  s-lt = twice-lt (suc m) g p ge lt

  c_ge : 2 ^ 52 ≤ c
  c_ge = omega (arith, s-ge)

  c-le : c ≤ 2 ^ 53
  c-le = omega (arith, s-lt)

  k-le : k ≤ 2044
  k-le = omega (arith, exponent_lt false m e h)

  x-units : IsUnits (fin false (suc m) e) X
  x-units = (refl, (place e (high false m e h)).1 (suc m))

  root_is : sqrt_of (fin false (suc m) e) ≡ odd 54 false c k 1074
  root_is = sqrt-plus (fin false (suc m) e) X x-units (mul-pos (zero-lt-suc m) (pow_pos j)) ∙ root-at (suc m) j g p p-is ge lt

  r-units : IsUnits (sqrt_of (fin false (suc m) e)) (c * 2 ^ k)
  r-units = subst (λ (r : Float). IsUnits r (c * 2 ^ k)) (sym root_is) (odd_sign 54 false c k 1074)

  r-fits : T (fits binary64 (sqrt_of (fin false (suc m) e)))
  r-fits = subst (λ (r : Float). T (fits binary64 r)) (written c k c_ge c-le k-le ∙ sym root_is) (of_bits-fits binary64 (k * 4503599627370496 + c))

  floor : Floor Q s
  floor = floor-is (suc m) g p ge lt

  -- four times the root's square, in units
  four : 4 * (X * 2 ^ 1074) ≡ Q * (2 ^ k * 2 ^ k)
  four =
      ap (λ (x : ℕ). 4 * x) (mul_assoc (suc m) (2 ^ j) (2 ^ 1074) ∙ ap (λ (x : ℕ). suc m * x) (sym (pow-add 2 j 1074)))
      ∙ split-up (suc m) j g p p-is
      ∙ ap (λ (x : ℕ). Q * x) (ap (λ (x : ℕ). 2 ^ x) (double k) ∙ pow-add 2 k k)
    where
      double : (k : ℕ) → 2 * k ≡ k + k
      double k = omega arith

  K-pos : 0 < 2 ^ k
  K-pos = pow_pos k

  half-above : (2 * c - 1) * 2 ^ k * ((2 * c - 1) * 2 ^ k) < Q * (2 ^ k * 2 ^ k)
  half-above = ⊎_elim
      (λ (z : s ≡ 2 * c). strict-under s (2 ^ k) Q K-pos ((2 * c - 1) * 2 ^ k) (mul-lt-mul_of_pos_right (omega (arith, z, c_ge)) K-pos) floor.0)
      (λ (z : s + 1 ≡ 2 * c). under-strict s (2 ^ k) Q K-pos ((2 * c - 1) * 2 ^ k) (mul-le-mul_right (2 ^ k) (omega (arith, z))) (below-even s c (scaled (suc m) g p) z floor.0))
      (parity s)

  half-below : Q * (2 ^ k * 2 ^ k) < (2 * c + 1) * 2 ^ k * ((2 * c + 1) * 2 ^ k)
  half-below = over (s + 1) (2 ^ k) Q K-pos ((2 * c + 1) * 2 ^ k) (mul-le-mul_right (2 ^ k) (omega arith)) floor.1

  nearer-above : (y : Float) (Y : ℕ) → T (fits binary64 y) → IsUnits y Y → c * 2 ^ k < Y → Q * (2 ^ k * 2 ^ k) < (Y + c * 2 ^ k) * (Y + c * 2 ^ k)
  nearer-above y Y f v l =
      let u = in-units y Y f v in
      let far : c * 2 ^ k + 2 ^ k ≤ Y = subst (λ (z : ℕ). c * 2 ^ k + 2 ^ k ≤ z) (sym u.3) (gap-above c k u.0 u.1 c_ge u.2 (lt_of_lt_of_le l (le_of_eq u.3))) in
      over (s + 1) (2 ^ k) Q K-pos (Y + c * 2 ^ k) (le_trans (mul-le-mul_right (2 ^ k) (at_most s)) (sum c (2 ^ k) Y far)) floor.1
    where
      at_most : (s : ℕ) → s + 1 ≤ 2 * ((s + 1) / 2) + 1
      at_most s = omega arith

      sum : (c K Y : ℕ) → c * K + K ≤ Y → (2 * c + 1) * K ≤ Y + c * K
      sum c K Y h = omega arith

  nearer-below : (y : Float) (Y : ℕ) → T (fits binary64 y) → IsUnits y Y → Y < c * 2 ^ k → (Y + c * 2 ^ k) * (Y + c * 2 ^ k) < Q * (2 ^ k * 2 ^ k)
  nearer-below y Y f v l = ⊎_elim
      (λ (z : s ≡ 2 * c). strict-under s (2 ^ k) Q K-pos (Y + c * 2 ^ k) (subst (λ (x : ℕ). Y + c * 2 ^ k < x * 2 ^ k) (sym z) (both c (2 ^ k) Y l)) floor.0)
      (λ (z : s + 1 ≡ 2 * c).
      let u = in-units y Y f v in
      let far : Y + 2 ^ k ≤ c * 2 ^ k = subst (λ (w : ℕ). w + 2 ^ k ≤ c * 2 ^ k) (sym u.3) (gap_below c k u.0 u.1 (omega (arith, z, s-ge)) u.2 (lt_of_le_of_lt (le_of_eq (sym u.3)) l)) in
      under-strict s (2 ^ k) Q K-pos (Y + c * 2 ^ k) (short s c (2 ^ k) Y z far) (below-even s c (scaled (suc m) g p) z floor.0))
      (parity s)
    where
      both : (c K Y : ℕ) → Y < c * K → Y + c * K < 2 * c * K
      both c K Y h = omega arith

      short : (s c K Y : ℕ) → s + 1 ≡ 2 * c → Y + K ≤ c * K → Y + c * K ≤ s * K
      short s c K Y z h =
          let e : (s + 1) * K ≡ 2 * c * K = ap (λ (x : ℕ). x * K) z in
          omega arith

pub correctly-rounded : CorrectlyRounded
correctly-rounded m e h = record {
  X = X m e h;
  R = c m e h * 2 ^ k m e h;
  x_is = x-units m e h;
  r_is = r-units m e h;
  is_f64 = r-fits m e h;
  beats_below = λ y Y f v l. lt_of_lt_of_le (nearer-below m e h y Y f v l) (le_of_eq (sym (four m e h)));
  beats_above = λ y Y f v l. lt_of_le_of_lt (le_of_eq (four m e h)) (nearer-above m e h y Y f v l);
}

pub within-half-place : WithinHalfPlace
within-half-place m e h = record {
  X = X m e h;
  c = c m e h;
  k = k m e h;
  x_is = x-units m e h;
  r_is = r-units m e h;
  is_f64 = r-fits m e h;
  digits = (c_ge m e h, c-le m e h);
  above = lt_of_lt_of_le (half-above m e h) (le_of_eq (sym (four m e h)));
  below = lt_of_le_of_lt (le_of_eq (four m e h)) (half-below m e h);
}

pub specials : Specials
unfolding sqrt_of
specials = (refl, refl, refl, (λ s. refl), (λ m e. refl))

-- ---- only one value is nearest
pub same_units : (x : Float) (n n' : ℕ) → IsUnits x n → IsUnits x n' → n ≡ n'
same_units nan n n' v w = absurd v
same_units (inf s) n n' v w = absurd v
same_units (fin s m e) n n' v w = eq_of_mul-eq-mul_right (down e) (down_pos e) n n' (sym v.1 ∙ w.1)

-- the bits are made of the sign and the units alone
bits_of : (x : Float) (n : ℕ) → IsUnits x n → to_bits binary64 x ≡ (size n - 53) * 4503599627370496 + n / 2 ^ (size n - 53)
unfolding to_bits
bits_of nan n v = absurd v
bits_of (inf s) n v = absurd v
bits_of (fin true m e) n v = absurd (true≢false v.0)
bits_of (fin false m e) n v =
    let u : m * up e * 2 ^ 1074 / down e ≡ n = ap (λ (x : ℕ). x / down e) v.1 ∙ mul-div_cancel n (down_pos e) in
    ap (λ (x : ℕ). 0 + (size x - 53) * 4503599627370496 + x / 2 ^ (size x - 53)) u
    ∙ ap (λ (x : ℕ). x + n / 2 ^ (size n - 53)) (zero-add ((size n - 53) * 4503599627370496))

pub one_value : (x y : Float) (n : ℕ) → T (fits binary64 x) → T (fits binary64 y) → IsUnits x n → IsUnits y n → x ≡ y
one_value x y n f g v w = sym (of_bits-to_bits binary64 x f) ∙ ap (of_bits binary64) (bits_of x n v ∙ sym (bits_of y n w)) ∙ of_bits-to_bits binary64 y g

clash : (x r r' : Float) (a : NearestRoot x r) (b : NearestRoot x r') → a.R < b.R → ⊥
clash x r r' a b l =
    let e : a.X ≡ b.X = same_units x a.X b.X a.x_is b.x_is in
    let u : 4 * (a.X * 2 ^ 1074) < (b.R + a.R) * (b.R + a.R) = a.beats_above r' b.R b.is_f64 b.r_is l in
    let d : (a.R + b.R) * (a.R + b.R) < 4 * (b.X * 2 ^ 1074) = b.beats_below r a.R a.is_f64 a.r_is l in
    let same : (b.R + a.R) * (b.R + a.R) ≡ (a.R + b.R) * (a.R + b.R) = ap (λ (z : ℕ). z * z) (add_comm b.R a.R) in
    lt_irrefl (4 * (a.X * 2 ^ 1074)) (lt_trans (lt_of_lt_of_le u (le_of_eq same)) (lt_of_lt_of_le d (le_of_eq (ap (λ (z : ℕ). 4 * (z * 2 ^ 1074)) (sym e)))))

pub only_one : OnlyOne
only_one x r r' a b =
    let no_less : b.R ≤ a.R = not-less b.R a.R (clash x r r' a b) in
    let no_more : a.R ≤ b.R = not-less a.R b.R (clash x r' r b a) in
    one_value r r' b.R a.is_f64 b.is_f64 (subst (IsUnits r) (le_antisymm no_more no_less) a.r_is) b.r_is
  where
    not-less : (n m : ℕ) → (m < n → ⊥) → n ≤ m
    not-less n m h = omega arith
