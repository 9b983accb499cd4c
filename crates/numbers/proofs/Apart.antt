-- Two sums that are clearly apart have roots that differ: the statement is in `specs/Ordered.antt`.
use mathlib.Core.Path.{◌≡◌, refl, sym, ap, ◌∙◌, subst}
use mathlib.Core.Logic.{◌⊎◌, inl, inr, ⊎_elim}
use Prim.Native.Nat.{ℕ, zero, suc, ◌+◌, ◌-◌, ◌*◌, ◌/◌, ◌^◌, ◌≤◌, ◌<◌}
use native.Mathlib.Nat.{le_of_mul-le-mul_right, le_trans, le_of_eq, le_of_lt, lt_of_le_of_lt, lt_of_lt_of_le, eq-or-lt_of_le, eq-zero-or-pos, zero-lt-suc, zero-mul, mul_comm, mul_assoc, mul_right_comm, mul-le-mul_right, mul-le-mul_left, mul-lt-mul_of_pos_right, lt_of_mul-lt-mul_right, eq_of_mul-eq-mul_right, mul-pos, mul-div_cancel, div-mul-le_self, le-div_iff_mul-le}
use native.Mathlib.Omega.{arith}
use mathlib.Core.Bool.{Bool, true, false, not, ◌&&◌, ◌||◌, true≢false, false≢true}
use lib.IntN.{ℤ, pos}
use lib.Dec.{T, lit≤, ltb, leb, eqb, eqb→eq, ltb→lt, lt→ltb, leb→le, nleb→lt}
use lib.Pow.{pow-add, pow_pos, pow_mono}
use lib.Ieee.{Float, nan, inf, fin, binary64, up, down, size, lt, le, eq, mul, round, fits}
use lib.Ieee.Bits.{is_true}
use lib.Ieee.Digits.{size_reaches}
use lib.Ieee.Exact.{HasValue, round_exact}
use lib.Ieee.Fits.{down_pos, and_l, and_r, round-fits}
use lib.Ieee.Order.{round_mono}
use lib.Ieee.Positive.{first_pos}
use Rattle.numbers.specs.Root.{floor_root, root_of, sqrt_of}
use Rattle.numbers.specs.Rounded.{IsUnits}
use Rattle.numbers.specs.Ordered.{SetsApart, gap}
use Rattle.numbers.specs.Numbers.{+0, -1}
use Rattle.numbers.proofs.FloorRoot.{root-le}
use Rattle.numbers.proofs.Monotone.{drop, scaled, kept, low-places, scaled-lt, floor, kept-ge, kept-le, size_mono, root-value, long-enough, root-zero, some, nothing, more, before-nan}
use Rattle.numbers.proofs.Correct.{few, high, under, exponent, place, one_value}

-- ---- the kept numbers of v and w, where w is at least v * (1 + 2 ^ -47)
room_for : (d v w : ℕ) → d * 2 ^ 104 ≤ v → v * 140737488355329 ≤ w * 140737488355328 → v + d * 2 ^ 57 ≤ w
room_for d v w a g = omega arith

plus-room : (q d v w : ℕ) → q * d ≤ 4 * v → v + d * 2 ^ 57 ≤ w → (q + 2 ^ 59) * d ≤ 4 * w
plus-room q d v w a b = omega arith

module _ (v w : ℕ) (long : 106 < size v) (g : v * 140737488355329 ≤ w * 140737488355328) where
  abbrev D : ℕ
  D = 2 ^ (2 * drop v)

  reaches : D * 2 ^ 104 ≤ v
  reaches = le_trans (le_of_eq (sym (pow-add 2 (2 * drop v) 104))) (size_reaches v (2 * drop v + 104) (low-places v long))

  wide : v + D * 2 ^ 57 ≤ w
  wide = room_for D v w reaches g

  v≤w : v ≤ w
  v≤w = omega (arith, wide)

  long' : 106 < size w
  long' = lt_of_lt_of_le long (size_mono v w v≤w)

  s-lt : floor_root 54 (scaled v) ≤ 2 ^ 54 - 1
  s-lt = root-le (floor_root 54 (scaled v)) (2 ^ 54 - 1) (scaled v) (floor v long).0 (scaled-lt v long)

  v-ge : scaled v * D ≤ 4 * v
  v-ge = div-mul-le_self (4 * v) D

  -- the same number of digits dropped
  same : drop v ≡ drop w → kept v * 2 ^ drop v < kept w * 2 ^ drop w
  same e =
      let q : scaled v + 2 ^ 59 ≤ 4 * w / D = (le-div_iff_mul-le (pow_pos (2 * drop v))).1 (plus-room (scaled v) D v w v-ge wide) in
      let q' : scaled v + 2 ^ 59 ≤ scaled w = subst (λ (d : ℕ). scaled v + 2 ^ 59 ≤ 4 * w / 2 ^ (2 * d)) e q in
      let t : floor_root 54 (scaled v) + 2 ≤ floor_root 54 (scaled w) =
      root-le (floor_root 54 (scaled v) + 2) (floor_root 54 (scaled w)) (scaled w) (le_trans (square (floor_root 54 (scaled v)) (scaled v) s-lt (floor v long).0) q') (floor w long').1 in
      lt_of_lt_of_le (mul-lt-mul_of_pos_right (half (floor_root 54 (scaled v)) (floor_root 54 (scaled w)) t) (pow_pos (drop v))) (le_of_eq (ap (λ (d : ℕ). kept w * 2 ^ d) e))
    where
      square : (s q : ℕ) → s ≤ 2 ^ 54 - 1 → s * s ≤ q → (s + 2) * (s + 2) ≤ q + 2 ^ 59
      square s q a b = let e : (s + 2) * (s + 2) ≡ s * s + 4 * s + 4 = omega arith in omega arith

      half : (s t : ℕ) → s + 2 ≤ t → (s + 1) / 2 < (t + 1) / 2
      half s t h = omega arith

  -- one more dropped
  next-full : drop w ≡ drop v + 1 → 2 ^ 54 - 1 ≤ floor_root 54 (scaled v) → 2 ^ 52 < kept w
  next-full e f =
      let b : (2 ^ 54 - 1) * (2 ^ 54 - 1) ≤ scaled v = le_trans (mul-le-mul' f) (floor v long).0 in
      let q : (2 ^ 53 + 1) * (2 ^ 53 + 1) ≤ 4 * w / 2 ^ (2 * (drop v + 1)) =
      (le-div_iff_mul-le (pow_pos (2 * (drop v + 1)))).1 (le_trans (le_of_eq (ap (λ (x : ℕ). (2 ^ 53 + 1) * (2 ^ 53 + 1) * x) (four (drop v)))) (sum (scaled v) D v w b v-ge wide)) in
      let t : 2 ^ 53 + 1 ≤ floor_root 54 (scaled w) =
      root-le (2 ^ 53 + 1) (floor_root 54 (scaled w)) (scaled w) (subst (λ (d : ℕ). (2 ^ 53 + 1) * (2 ^ 53 + 1) ≤ 4 * w / 2 ^ (2 * d)) (sym e) q) (floor w long').1 in
      half (floor_root 54 (scaled w)) t
    where
      mul-le-mul' : {s : ℕ} → 2 ^ 54 - 1 ≤ s → (2 ^ 54 - 1) * (2 ^ 54 - 1) ≤ s * s
      mul-le-mul' {s} h = le_trans (mul-le-mul_left (2 ^ 54 - 1) h) (mul-le-mul_right s h)

      four : (k : ℕ) → 2 ^ (2 * (k + 1)) ≡ 2 ^ (2 * k) * 4
      four k = let e : 2 * (k + 1) ≡ 2 * k + 2 = omega arith in ap (λ (x : ℕ). 2 ^ x) e ∙ pow-add 2 (2 * k) 2

      regroup : (a d : ℕ) → a * (d * 4) ≡ a * 4 * d
      regroup a d = omega arith

      sum : (q d v w : ℕ) → (2 ^ 54 - 1) * (2 ^ 54 - 1) ≤ q → q * d ≤ 4 * v → v + d * 2 ^ 57 ≤ w → (2 ^ 53 + 1) * (2 ^ 53 + 1) * (d * 4) ≤ 4 * w
      sum q d v w a b c =
          le_trans (le_of_eq (regroup ((2 ^ 53 + 1) * (2 ^ 53 + 1)) d))
          (le_trans (mul-le-mul_right d (lit≤ {m = (2 ^ 53 + 1) * (2 ^ 53 + 1) * 4} {n = (2 ^ 54 - 1) * (2 ^ 54 - 1) + 2 ^ 59} tt))
          (plus-room ((2 ^ 54 - 1) * (2 ^ 54 - 1)) d v w (le_trans (mul-le-mul_right d a) b) c))

      half : (s : ℕ) → 2 ^ 53 + 1 ≤ s → 2 ^ 52 < (s + 1) / 2
      half s h = omega arith

  abbrev s : ℕ
  s = floor_root 54 (scaled v)

  next : drop w ≡ drop v + 1 → kept v * 2 ^ drop v < kept w * 2 ^ drop w
  next e =
      subst (λ (x : ℕ). kept v * 2 ^ drop v < kept w * x) (sym (ap (λ (d : ℕ). 2 ^ d) e ∙ pow-add 2 (drop v) 1))
      (⊎_elim
      (λ (h : 2 ^ 54 - 1 ≤ s). up_one (kept v) (kept w) (2 ^ drop v) (pow_pos (drop v)) (kept-le v long) (next-full e h))
      (λ (h : s < 2 ^ 54 - 1). down-one (kept v) (kept w) (2 ^ drop v) (pow_pos (drop v)) (less s h) (kept-ge w long'))
      (order (2 ^ 54 - 1) s))
    where
      order : (a b : ℕ) → (a ≤ b) ⊎ (b < a)
      order a b = go (leb a b) (leb→le a b) (nleb→lt a b)
        where
          go : (t : Bool) → (T t → a ≤ b) → (T (not t) → b < a) → (a ≤ b) ⊎ (b < a)
          go true y z = inl (y tt)
          go false y z = inr (z tt)

      less : (s : ℕ) → s < 2 ^ 54 - 1 → (s + 1) / 2 < 2 ^ 53
      less s h = omega arith

      up_one : (a b p : ℕ) → 0 < p → a ≤ 2 ^ 53 → 2 ^ 52 < b → a * p < b * (p * 2)
      up_one a b p P h k = let x : a * p ≤ 2 ^ 53 * p = mul-le-mul_right p h in let y : 2 ^ 52 * p < b * p = mul-lt-mul_of_pos_right k P in omega arith

      down-one : (a b p : ℕ) → 0 < p → a < 2 ^ 53 → 2 ^ 52 ≤ b → a * p < b * (p * 2)
      down-one a b p P h k = let x : a * p < 2 ^ 53 * p = mul-lt-mul_of_pos_right h P in let y : 2 ^ 52 * p ≤ b * p = mul-le-mul_right p k in omega arith

  -- more than one
  far : drop v + 2 ≤ drop w → kept v * 2 ^ drop v < kept w * 2 ^ drop w
  far h =
      lt_of_le_of_lt (mul-le-mul_right (2 ^ drop v) (kept-le v long))
      (lt_of_lt_of_le (mul-lt-mul_of_pos_right (digits) (pow_pos (drop v)))
      (le_trans (le_of_eq (sym (pow-add 2 54 (drop v))))
      (le_trans (pow_mono (places (drop v) (drop w) h))
      (le_trans (le_of_eq (pow-add 2 52 (drop w))) (mul-le-mul_right (2 ^ drop w) (kept-ge w long'))))))
    where
      digits : 2 ^ 53 < 2 ^ 54
      digits = omega arith

      places : (j k : ℕ) → j + 2 ≤ k → 54 + j ≤ 52 + k
      places j k h = omega arith

  pub kept-apart : kept v * 2 ^ drop v < kept w * 2 ^ drop w
  kept-apart = go (eq-or-lt_of_le (fewer (size v) (size w) (size_mono v w v≤w)))
    where
      fewer : (a b : ℕ) → a ≤ b → (a + 1) / 2 - 53 ≤ (b + 1) / 2 - 53
      fewer a b h = omega arith

      one-or-more : (j k : ℕ) → j < k → (k ≡ j + 1) ⊎ (j + 2 ≤ k)
      one-or-more j k h = ⊎_elim (λ (e : suc j ≡ k). inl (omega arith)) (λ (l : suc j < k). inr (omega arith)) (eq-or-lt_of_le h)

      go : (drop v ≡ drop w) ⊎ (drop v < drop w) → kept v * 2 ^ drop v < kept w * 2 ^ drop w
      go (inl e) = same e
      go (inr l) = ⊎_elim next far (one-or-more (drop v) (drop w) l)

-- ---- two values that are not negative, compared
below-values : (x y : Float) (a b c : ℕ) → 0 < c → HasValue x false a c → HasValue y false b c → a < b → lt x y ≡ true
unfolding lt
below-values nan y a b c C p q h = absurd p
below-values (inf s) y a b c C p q h = absurd p
below-values (fin true m e) y a b c C p q h = absurd (true≢false p.0)
below-values (fin false m e) nan a b c C p q h = absurd q
below-values (fin false m e) (inf t) a b c C p q h = absurd q
below-values (fin false m e) (fin true n d) a b c C p q h = absurd (true≢false q.0)
below-values (fin false m e) (fin false n d) a b c C p q h =
    is_true (ltb (m * up e * down d) (n * up d * down e)) (lt→ltb (m * up e * down d) (n * up d * down e) (cross (m * up e) (n * up d) (down e) (down d) (down_pos e) (down_pos d) p.1 q.1))
  where
    cross : (x y p q : ℕ) → 0 < p → 0 < q → x * c ≡ a * p → y * c ≡ b * q → x * q < y * p
    cross x y p q P Q u v =
        lt_of_mul-lt-mul_right c
        (lt_of_le_of_lt (le_of_eq (mul_right_comm x q c ∙ ap (λ (z : ℕ). z * q) u ∙ mul_assoc a p q))
        (lt_of_lt_of_le (mul-lt-mul_of_pos_right h (mul-pos P Q))
        (le_of_eq (ap (λ (z : ℕ). b * z) (mul_comm p q) ∙ sym (mul_assoc b q p) ∙ ap (λ (z : ℕ). z * p) (sym v) ∙ mul_right_comm y c p))))

-- ---- the test in floats, as a fact of numbers: if y were below x * (1 + 2 ^ -47), it would not be above that product rounded
-- an f64 is what it rounds to
units_of : (x : Float) (a c Y : ℕ) → 0 < c → a * 2 ^ 1074 ≡ Y * c → HasValue x false a c → IsUnits x Y
units_of nan a c Y C h v = absurd v
units_of (inf s) a c Y C h v = absurd v
units_of (fin s m e) a c Y C h v = (
  v.0,
  eq_of_mul-eq-mul_right c C (m * up e * 2 ^ 1074) (Y * down e)
      (mul_right_comm (m * up e) (2 ^ 1074) c ∙ ap (λ (z : ℕ). z * 2 ^ 1074) v.1 ∙ mul_right_comm a (down e) (2 ^ 1074) ∙ ap (λ (z : ℕ). z * down e) h ∙ mul_right_comm Y c (down e)),
)

module _ (n : ℕ) (d : ℤ) (h : T (fits binary64 (fin false (suc n) d))) where
  abbrev i : ℕ
  i = exponent false n d h

  abbrev Y : ℕ
  Y = suc n * 2 ^ i

  pub y-is : suc n * up d * 2 ^ 1074 ≡ Y * down d
  y-is = (place d (high false n d h)).1 (suc n)

  limit : Y < 2 ^ (1074 + 1024)
  limit = lt_of_mul-lt-mul_right (down d) (lt_of_le_of_lt (le_of_eq (sym y-is)) (lt_of_lt_of_le (mul-lt-mul_of_pos_right (under false n d h) (pow_pos 1074)) (le_of_eq (regroup (2 ^ 1024) (down d) (2 ^ 1074) ∙ ap (λ (x : ℕ). x * down d) (sym (pow-add 2 1074 1024))))))
    where
      regroup : (a b c : ℕ) → a * b * c ≡ c * a * b
      regroup a b c = omega arith

  rounds-back : round binary64 false (suc n * up d) (down d) ≡ fin false (suc n) d
  rounds-back =
      one_value (round binary64 false (suc n * up d) (down d)) (fin false (suc n) d) Y (round-fits binary64 false (suc n * up d) (down d)) h
      (units_of (round binary64 false (suc n * up d) (down d)) (suc n * up d) (down d) Y (down_pos d) y-is
      (round_exact binary64 false (suc n * up d) (down d) (suc n) i (down_pos d) (few false n d h) limit y-is))
      (refl, y-is)

clash : (z : Float) (n : ℕ) (d : ℤ) → T (le (fin false (suc n) d) z) → lt z (fin false (suc n) d) ≡ true → ⊥
unfolding le lt eq
clash nan n d t h = false≢true h
clash (inf true) n d t h = t
clash (inf false) n d t h = false≢true h
clash (fin true m e) n d t h =
    absurd (above_zero (suc n * up d * down e) (some n d e) (eqb→eq (suc n * up d * down e) 0 (and_r (eqb (suc n * up d * down e) (m * up e * down d)) (eqb (suc n * up d * down e) 0) t)))
  where
    above_zero : (a : ℕ) → 0 < a → a ≡ 0 → ⊥
    above_zero a h e = omega arith
clash (fin false m e) n d t h =
    both (suc n * up d * down e) (m * up e * down d) (or_elim (ltb (suc n * up d * down e) (m * up e * down d)) (eqb (suc n * up d * down e) (m * up e * down d) && true) t)
    (ltb→lt (m * up e * down d) (suc n * up d * down e) (subst (λ (q : Bool). T q) (sym h) tt))
  where
    or_elim : (x y : Bool) → T (x || y) → T x ⊎ T y
    or_elim true y t = inl tt
    or_elim false y t = inr t

    less : (a b : ℕ) → a < b → b < a → ⊥
    less a b h l = omega arith

    same : (a b : ℕ) → a ≡ b → b < a → ⊥
    same a b h l = omega arith

    both : (a b : ℕ) → T (ltb a b) ⊎ T (eqb a b && true) → b < a → ⊥
    both a b (inl q) l = less a b (ltb→lt a b q) l
    both a b (inr q) l = same a b (eqb→eq a b (and_l (eqb a b) true q)) l

exact-gap : (m n : ℕ) (e d : ℤ) → T (fits binary64 (fin false (suc n) d)) → lt (mul binary64 (fin false (suc m) e) gap) (fin false (suc n) d) ≡ true
    → suc m * up e * (140737488355329 * 1) * down d ≤ suc n * up d * (down e * 140737488355328)
unfolding mul
exact-gap m n e d h t =
    not-less (suc m * up e * (140737488355329 * 1) * down d) (suc n * up d * (down e * 140737488355328))
    (λ l.
    clash (mul binary64 (fin false (suc m) e) gap) n d
    (subst (λ (r : Float). T (le r (mul binary64 (fin false (suc m) e) gap))) (rounds-back n d h)
    (round_mono binary64 (suc n * up d) (down d) (suc m * up e * (140737488355329 * 1)) (down e * 140737488355328) (down_pos d) (mul-pos (down_pos e) (pow_pos 47)) (le_of_lt l)))
    t)
  where
    not-less : (a b : ℕ) → (b < a → ⊥) → a ≤ b
    not-less a b h = omega arith

-- ---- the law
-- in whole units, x cut
in-units : (a b U p q G H : ℕ) → 0 < p → 0 < q → a * G * q ≤ b * (p * H) → (Y : ℕ) → b * U ≡ Y * q → a * U / p * G ≤ Y * H
in-units a b U p q G H P Q h Y y =
    let r = a * U / p in
    le_of_mul-le-mul_right
    (le_trans (le_of_eq (left r G p q))
    (le_trans (mul-le-mul_right (G * q) (div-mul-le_self (a * U) p))
    (le_trans (le_of_eq (over a U G q))
    (le_trans (mul-le-mul_right U h)
    (le_of_eq (mul_right_comm b (p * H) U ∙ ap (λ (z : ℕ). z * (p * H)) y ∙ right Y q p H))))))
    (mul-pos P Q)
  where
    left : (r G p q : ℕ) → r * G * (p * q) ≡ r * p * (G * q)
    left r G p q = omega arith

    over : (a U G q : ℕ) → a * U * (G * q) ≡ a * G * q * U
    over a U G q = omega arith

    right : (Y q p H : ℕ) → Y * q * (p * H) ≡ Y * H * (p * q)
    right Y q p H = omega arith

no_less : (a b : ℕ) → b ≡ 0 → ltb a b ≡ true → ⊥
no_less a b e h = none a b e (ltb→lt a b (subst (λ (q : Bool). T q) (sym h) tt))
  where
    none : (a b : ℕ) → b ≡ 0 → a < b → ⊥
    none a b e l = omega arith

yes-less : (a b : ℕ) → a < b → ltb a b ≡ true
yes-less a b l = is_true (ltb a b) (lt→ltb a b l)

zero-below : (s : Bool) (e : ℤ) (x : Float) (a c : ℕ) → HasValue x false a c → 0 < a → lt (fin s zero e) x ≡ true
unfolding lt
zero-below s e nan a c v h = absurd v
zero-below s e (inf t) a c v h = absurd v
zero-below s e (fin true m d) a c v h = absurd (true≢false v.0)
zero-below false e (fin false m d) a c v h =
    yes-less (zero * up e * down d) (m * up d * down e) (lt_of_le_of_lt (le_of_eq (nothing e d)) (mul-pos (first_pos (m * up d) c (lt_of_lt_of_le (mul-pos h (down_pos d)) (le_of_eq (sym v.1)))) (down_pos e)))
zero-below true e (fin false m d) a c v h =
    yes-less 0 (zero * up e * down d + m * up d * down e) (more (zero * up e * down d) (m * up d * down e) (mul-pos (first_pos (m * up d) c (lt_of_lt_of_le (mul-pos h (down_pos d)) (le_of_eq (sym v.1)))) (down_pos e)))

before-inf : (x : Float) (a c : ℕ) → HasValue x false a c → lt x (inf false) ≡ true
unfolding lt
before-inf nan a c v = absurd v
before-inf (inf s) a c v = absurd v
before-inf (fin s m e) a c v = refl

root-pos : (n : ℕ) → 0 < n → 0 < kept (n * 2 ^ 1074) * 2 ^ drop (n * 2 ^ 1074)
root-pos n h = mul-pos (lt_of_lt_of_le (pow_pos 52) (kept-ge (n * 2 ^ 1074) (long-enough n h))) (pow_pos (drop (n * 2 ^ 1074)))

roots-apart : (n m : ℕ) → 0 < m → n * 140737488355329 ≤ m * 140737488355328 → lt (root_of n) (root_of m) ≡ true
roots-apart n m h g = go (eq-zero-or-pos n)
  where
    go : (n ≡ 0) ⊎ (0 < n) → lt (root_of n) (root_of m) ≡ true
    go (inl z) = subst (λ (k : ℕ). lt (root_of k) (root_of m) ≡ true) (sym z) (below-values (root_of 0) (root_of m) 0 _ (2 ^ 1074) (pow_pos 1074) root-zero (root-value m) (root-pos m h))
    go (inr p) =
        below-values (root_of n) (root_of m) _ _ (2 ^ 1074) (pow_pos 1074) (root-value n) (root-value m)
        (kept-apart (n * 2 ^ 1074) (m * 2 ^ 1074) (long-enough n p)
        (le_trans (le_of_eq (mul_right_comm n (2 ^ 1074) 140737488355329)) (le_trans (mul-le-mul_right (2 ^ 1074) g) (le_of_eq (mul_right_comm m 140737488355328 (2 ^ 1074))))))

module _ (n : ℕ) (d : ℤ) (h : T (fits binary64 (fin false (suc n) d))) where
  whole : suc n * up d * 2 ^ 1074 / down d ≡ Y n d h
  whole = ap (λ (x : ℕ). x / down d) (y-is n d h) ∙ mul-div_cancel (Y n d h) (down_pos d)

  Y-pos : 0 < Y n d h
  Y-pos = mul-pos (zero-lt-suc n) (pow_pos (i n d h))

  above-zero-root : (s : Bool) (e : ℤ) → lt (fin s zero e) (root_of (suc n * up d * 2 ^ 1074 / down d)) ≡ true
  above-zero-root s e = subst (λ (x : ℕ). lt (fin s zero e) (root_of x) ≡ true) (sym whole) (zero-below s e (root_of (Y n d h)) _ _ (root-value (Y n d h)) (root-pos (Y n d h) Y-pos))

  above_root : (m : ℕ) (e : ℤ) → lt (mul binary64 (fin false (suc m) e) gap) (fin false (suc n) d) ≡ true
      → lt (root_of (suc m * up e * 2 ^ 1074 / down e)) (root_of (suc n * up d * 2 ^ 1074 / down d)) ≡ true
  above_root m e t =
      subst (λ (x : ℕ). lt (root_of (suc m * up e * 2 ^ 1074 / down e)) (root_of x) ≡ true) (sym whole)
      (roots-apart (suc m * up e * 2 ^ 1074 / down e) (Y n d h) Y-pos
      (in-units (suc m * up e) (suc n * up d) (2 ^ 1074) (down e) (down d) 140737488355329 140737488355328 (down_pos e) (down_pos d) (exact-gap m n e d h t) (Y n d h) (y-is n d h)))

pub sets-apart : SetsApart
unfolding lt sqrt_of
sets-apart nan y f g h t = absurd (false≢true h)
sets-apart (inf true) y f g h t = absurd (false≢true g)
sets-apart (inf false) nan f g h t = absurd (false≢true h)
sets-apart (inf false) (inf s) f g h t = absurd (false≢true h)
sets-apart (inf false) (fin s n d) f g h t = absurd (false≢true h)
sets-apart (fin true (suc m) e) y f g h t = absurd (false≢true g)
sets-apart (fin s zero e) nan f g h t = absurd (false≢true h)
sets-apart (fin s zero e) (inf true) f g h t = absurd (false≢true h)
sets-apart (fin s zero e) (inf false) f g h t = refl
sets-apart (fin s zero e) (fin r zero d) f g h t = h
sets-apart (fin false zero e) (fin true (suc n) d) f g h t = absurd (false≢true h)
sets-apart (fin true zero e) (fin true (suc n) d) f g h t = absurd (no_less (suc n * up d * down e) (zero * up e * down d) (nothing e d) h)
sets-apart (fin s zero e) (fin false (suc n) d) f g h t = above-zero-root n d f s e
sets-apart (fin false (suc m) e) nan f g h t = absurd (false≢true h)
sets-apart (fin false (suc m) e) (inf true) f g h t = absurd (false≢true h)
sets-apart (fin false (suc m) e) (inf false) f g h t = before-inf (root_of (suc m * up e * 2 ^ 1074 / down e)) _ _ (root-value (suc m * up e * 2 ^ 1074 / down e))
sets-apart (fin false (suc m) e) (fin true n d) f g h t = absurd (false≢true h)
sets-apart (fin false (suc m) e) (fin false zero d) f g h t = absurd (no_less (suc m * up e * down d) (zero * up d * down e) (nothing d e) h)
sets-apart (fin false (suc m) e) (fin false (suc n) d) f g h t = above_root n d f m e t

-- ---- which numbers have a root above -1: all but a NaN and those below zero
minus-below : (x : Float) (a c : ℕ) → HasValue x false a c → lt -1 x ≡ true
unfolding lt
minus-below nan a c v = absurd v
minus-below (inf s) a c v = absurd v
minus-below (fin true m d) a c v = absurd (true≢false v.0)
minus-below (fin false m d) a c v = yes-less 0 (1 * 1 * down d + m * up d * 1) (less (1 * 1 * down d) (m * up d * 1) (mul-pos (mul-pos (zero-lt-suc 0) (zero-lt-suc 0)) (down_pos d)))
  where
    less : (a b : ℕ) → 0 < a → 0 < a + b
    less a b h = omega arith

zero-over : (s : Bool) (d : ℤ) → lt -1 (fin s zero d) ≡ true
unfolding lt
zero-over false d = minus-below (fin false zero d) 0 1 (refl, ap (λ (x : ℕ). x * 1) (zero-mul (up d)) ∙ sym (zero-mul (down d)))
zero-over true d = yes-less (zero * up d * 1) (1 * 1 * down d) (lt_of_le_of_lt (le_of_eq (nothing d (pos 0))) (mul-pos (mul-pos (zero-lt-suc 0) (zero-lt-suc 0)) (down_pos d)))

at-least-zero : (b : ℕ) (d : ℤ) → T (ltb (0 * 1 * down d) b || (eqb (0 * 1 * down d) b && true))
at-least-zero b d = subst (λ (a : ℕ). T (ltb a b || (eqb a b && true))) (sym (nothing (pos 0) d)) (go b)
  where
    or_l : (p q : Bool) → T p → T (p || q)
    or_l true q t = tt
    or_l false q t = absurd t

    go : (b : ℕ) → T (ltb 0 b || (eqb 0 b && true))
    go zero = tt
    go (suc b) = or_l (ltb 0 (suc b)) (eqb 0 (suc b) && true) (lt→ltb 0 (suc b) (zero-lt-suc b))

both_zero : (d : ℤ) → T (eqb (0 * 1 * down d) (0 * up d * 1) && eqb (0 * 1 * down d) 0)
both_zero d = subst (λ (a : ℕ). T (eqb a (0 * up d * 1) && eqb a 0)) (sym (nothing (pos 0) d)) (subst (λ (b : ℕ). T (eqb 0 b && true)) (sym (nothing d (pos 0))) tt)

not-zero : (n : ℕ) (d : ℤ) → T (eqb (0 * 1 * down d) (suc n * up d * 1) && eqb (0 * 1 * down d) 0) → ⊥
not-zero n d t = off (0 * 1 * down d) (suc n * up d * 1) (nothing (pos 0) d) (some n d (pos 0)) (eqb→eq (0 * 1 * down d) (suc n * up d * 1) (and_l (eqb (0 * 1 * down d) (suc n * up d * 1)) (eqb (0 * 1 * down d) 0) t))
  where
    off : (a b : ℕ) → a ≡ 0 → 0 < b → a ≡ b → ⊥
    off a b z h e = omega arith

true_of : (b : Bool) → b ≡ true → T b
true_of b e = subst (λ (q : Bool). T q) (sym e) tt

never : (b : Bool) → T b → b ≡ false → ⊥
never b t e = subst (λ (q : Bool). T q) e t

pub root_over : (y : Float) → le +0 y ≡ true → lt -1 (sqrt_of y) ≡ true
unfolding le lt eq sqrt_of
root_over nan h = absurd (false≢true h)
root_over (inf true) h = absurd (false≢true h)
root_over (inf false) h = refl
root_over (fin s zero d) h = zero-over s d
root_over (fin true (suc n) d) h = absurd (not-zero n d (true_of (eqb (0 * 1 * down d) (suc n * up d * 1) && eqb (0 * 1 * down d) 0) h))
root_over (fin false (suc n) d) h = minus-below (root_of (suc n * up d * 2 ^ 1074 / down d)) _ _ (root-value (suc n * up d * 2 ^ 1074 / down d))

pub root-under : (y : Float) → le +0 y ≡ false → lt -1 (sqrt_of y) ≡ false
unfolding le lt eq sqrt_of
root-under nan h = refl
root-under (inf true) h = refl
root-under (inf false) h = absurd (true≢false h)
root-under (fin true zero d) h = absurd (never (eqb (0 * 1 * down d) (0 * up d * 1) && eqb (0 * 1 * down d) 0) (both_zero d) h)
root-under (fin true (suc n) d) h = refl
root-under (fin false n d) h = absurd (never (ltb (0 * 1 * down d) (n * up d * 1) || (eqb (0 * 1 * down d) (n * up d * 1) && true)) (at-least-zero (n * up d * 1) d) h)

-- what is above such a number is one
pub root_up_holds : (x y : Float) → lt -1 (sqrt_of x) ≡ true → lt x y ≡ true → lt -1 (sqrt_of y) ≡ true
unfolding lt sqrt_of
root_up_holds x nan g h = absurd (false≢true (sym (before-nan x) ∙ h))
root_up_holds nan (inf true) g h = absurd (false≢true h)
root_up_holds (inf true) (inf true) g h = absurd (false≢true h)
root_up_holds (inf false) (inf true) g h = absurd (false≢true h)
root_up_holds (fin s m e) (inf true) g h = absurd (false≢true h)
root_up_holds x (inf false) g h = refl
root_up_holds x (fin s zero d) g h = zero-over s d
root_up_holds x (fin false (suc n) d) g h = minus-below (root_of (suc n * up d * 2 ^ 1074 / down d)) _ _ (root-value (suc n * up d * 2 ^ 1074 / down d))
root_up_holds nan (fin true (suc n) d) g h = absurd (false≢true h)
root_up_holds (inf true) (fin true (suc n) d) g h = absurd (false≢true g)
root_up_holds (inf false) (fin true (suc n) d) g h = absurd (false≢true h)
root_up_holds (fin false m e) (fin true (suc n) d) g h = absurd (false≢true h)
root_up_holds (fin true zero e) (fin true (suc n) d) g h = absurd (no_less (suc n * up d * down e) (zero * up e * down d) (nothing e d) h)
root_up_holds (fin true (suc m) e) (fin true (suc n) d) g h = absurd (false≢true g)
