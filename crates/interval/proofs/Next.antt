-- `next_up` is above its argument, and is an f64. 4503599627370496 is 2 ^ 52, 9223372036854775808 is 2 ^ 63, the sign's bit, and 9218868437227405312 is 2047 * 2 ^ 52, the infinity's pattern.
use mathlib.Core.Path.{◌≡◌, refl, sym, ap, ◌∙◌, subst}
use mathlib.Core.Logic.{◌⊎◌, inl, inr, ⊎_elim}
use Prim.Native.Nat.{ℕ, zero, suc, ◌+◌, ◌-◌, ◌*◌, ◌/◌, ◌%◌, ◌^◌, ◌≤◌, ◌<◌}
use native.Mathlib.Nat.{le_of_eq, lt_of_lt_of_le, mul-pos, mul-lt-mul_of_pos_right, lt_of_mul-lt-mul_right, eq-or-lt_of_le, mod-eq_of_lt, not-le_of_lt, pow-succ'}
use native.Mathlib.Omega.{arith}
use mathlib.Core.Bool.{Bool, true, false, not, cond, true≢false, false≢true}
use lib.Dec.{T, ltb, leb, eqb, ltb→lt, lt→ltb, nltb→le, leb→le, le→leb, eqb→eq, not_T}
use lib.Pow.{pow_pos}
use lib.Ieee.{Float, nan, inf, fin, binary64, up, down, lt, neg, fits, is_nan, of_fields, of_bits, to_bits}
use lib.Ieee.Bits.{is_true, is_false, of_bits-to_bits, of_bits-fits, to_bits-lt}
use lib.Ieee.Exact.{HasValue, odd_sign}
use lib.Ieee.Fits.{down_pos, inf-fits, cond-fits, neg-fits}
use Rattle.numbers.proofs.Patterns.{of_bits_is, under_ones, at_zero, no-nan-le}
use Rattle.interval.specs.Next.{after, next_up, next_down}
use Rattle.interval.proofs.Ends.{Higher, Lower, NextUp, NextDown}
use Rattle.interval.proofs.Signs.{neg-neg, lt-neg}

-- ---- what a pattern stands for: the size in units of 2 ^ -1074
abbrev sized : ℕ → ℕ → ℕ
sized zero t = t * 2 ^ 0
sized (suc x) t = (4503599627370496 + t) * 2 ^ x

abbrev pub size_of : ℕ → ℕ
size_of c = sized (c / 4503599627370496) (c % 4503599627370496)

field-value : (s : Bool) (x t : ℕ) → x < 2047 → HasValue (of_fields binary64 s x t) s (sized x t) (2 ^ 1074)
field-value s zero t h = subst (λ (z : Float). HasValue z s (t * 2 ^ 0) (2 ^ 1074)) (sym (at_zero s t)) (odd_sign 53 s t 0 1074)
field-value s (suc x) t h = subst (λ (z : Float). HasValue z s ((4503599627370496 + t) * 2 ^ x) (2 ^ 1074)) (sym (under_ones s t x h)) (odd_sign 53 s (4503599627370496 + t) x 1074)

plus-fields : (c : ℕ) → c < 9223372036854775808 → of_bits binary64 c ≡ of_fields binary64 false (c / 4503599627370496) (c % 4503599627370496)
plus-fields c h =
    of_bits_is c
    ∙ ap (λ (s : Bool). of_fields binary64 s (c % 9223372036854775808 / 4503599627370496) (c % 4503599627370496)) (is_false (leb 9223372036854775808 c) (not_T (leb 9223372036854775808 c) (λ (u : T (leb 9223372036854775808 c)). not-le_of_lt h (leb→le 9223372036854775808 c u))))
    ∙ ap (λ (x : ℕ). of_fields binary64 false (x / 4503599627370496) (c % 4503599627370496)) (mod-eq_of_lt h)

minus-fields : (c : ℕ) → c < 9223372036854775808 → of_bits binary64 (9223372036854775808 + c) ≡ of_fields binary64 true (c / 4503599627370496) (c % 4503599627370496)
minus-fields c h =
    let b = 9223372036854775808 + c in
    of_bits_is b
    ∙ ap (λ (s : Bool). of_fields binary64 s (b % 9223372036854775808 / 4503599627370496) (b % 4503599627370496)) (is_true (leb 9223372036854775808 b) (le→leb 9223372036854775808 b (omega arith)))
    ∙ ap (λ (x : ℕ). of_fields binary64 true (x / 4503599627370496) (b % 4503599627370496)) (rest c h)
    ∙ ap (λ (t : ℕ). of_fields binary64 true (c / 4503599627370496) t) (digits c)
  where
    rest : (c : ℕ) → c < 9223372036854775808 → (9223372036854775808 + c) % 9223372036854775808 ≡ c
    rest c h = omega arith

    digits : (c : ℕ) → (9223372036854775808 + c) % 4503599627370496 ≡ c % 4503599627370496
    digits c = omega arith

field_lt : (c : ℕ) → c < 9218868437227405312 → c / 4503599627370496 < 2047
field_lt c h = omega arith

pub plus-value : (c : ℕ) → c < 9218868437227405312 → HasValue (of_bits binary64 c) false (size_of c) (2 ^ 1074)
plus-value c h = subst (λ (z : Float). HasValue z false (size_of c) (2 ^ 1074)) (sym (plus-fields c (omega arith))) (field-value false (c / 4503599627370496) (c % 4503599627370496) (field_lt c h))

pub minus-value : (c : ℕ) → c < 9218868437227405312 → HasValue (of_bits binary64 (9223372036854775808 + c)) true (size_of c) (2 ^ 1074)
minus-value c h = subst (λ (z : Float). HasValue z true (size_of c) (2 ^ 1074)) (sym (minus-fields c (omega arith))) (field-value true (c / 4503599627370496) (c % 4503599627370496) (field_lt c h))

-- ---- the next pattern stands for more
more-digits : (x t : ℕ) → sized x t < sized x (t + 1)
more-digits zero t = omega arith
more-digits (suc x) t = omega (arith, pow_pos x)

carried : (x : ℕ) → sized x 4503599627370495 < sized (suc x) 0
carried zero = omega arith
carried (suc x) = omega (arith, pow_pos x, pow-succ' 2 x)

pub grows : (c : ℕ) → size_of c < size_of (c + 1)
grows c = go (eq-or-lt_of_le (digits c))
  where
    digits : (c : ℕ) → c % 4503599627370496 ≤ 4503599627370495
    digits c = omega arith

    same-field : (c : ℕ) → c % 4503599627370496 < 4503599627370495 → (c + 1) / 4503599627370496 ≡ c / 4503599627370496
    same-field c h = omega arith

    next-digit : (c : ℕ) → c % 4503599627370496 < 4503599627370495 → (c + 1) % 4503599627370496 ≡ c % 4503599627370496 + 1
    next-digit c h = omega arith

    next_field : (c : ℕ) → c % 4503599627370496 ≡ 4503599627370495 → (c + 1) / 4503599627370496 ≡ suc (c / 4503599627370496)
    next_field c h = omega arith

    no_digit : (c : ℕ) → c % 4503599627370496 ≡ 4503599627370495 → (c + 1) % 4503599627370496 ≡ 0
    no_digit c h = omega arith

    go : (c % 4503599627370496 ≡ 4503599627370495) ⊎ (c % 4503599627370496 < 4503599627370495) → size_of c < size_of (c + 1)
    go (inl e) = lt_of_lt_of_le (subst (λ (t : ℕ). sized (c / 4503599627370496) t < sized (suc (c / 4503599627370496)) 0) (sym e) (carried (c / 4503599627370496)))
        (le_of_eq (sym (ap (λ (x : ℕ). sized x ((c + 1) % 4503599627370496)) (next_field c e) ∙ ap (λ (t : ℕ). sized (suc (c / 4503599627370496)) t) (no_digit c e))))
    go (inr l) = lt_of_lt_of_le (more-digits (c / 4503599627370496) (c % 4503599627370496))
        (le_of_eq (sym (ap (λ (x : ℕ). sized x ((c + 1) % 4503599627370496)) (same-field c l) ∙ ap (λ (t : ℕ). sized (c / 4503599627370496) t) (next-digit c l))))

-- ---- the order of floats, by their units
fractions-lt : (x y p q a b L : ℕ) → 0 < L → x * L ≡ a * p → y * L ≡ b * q → 0 < p → 0 < q → a < b → x * q < y * p
fractions-lt x y p q a b L l e f P Q h =
    let k : a * (p * q) < b * (p * q) = mul-lt-mul_of_pos_right h (mul-pos P Q) in
    let g : x * q * L < y * p * L = omega (arith, ap (λ (z : ℕ). z * q) e, ap (λ (z : ℕ). z * p) f) in
    lt_of_mul-lt-mul_right L g

pub lt-plus : (x y : Float) (a b : ℕ) → HasValue x false a (2 ^ 1074) → HasValue y false b (2 ^ 1074) → a < b → T (lt x y)
unfolding lt
lt-plus nan y a b v w h = absurd v
lt-plus (inf s) y a b v w h = absurd v
lt-plus (fin true m e) y a b v w h = absurd (true≢false v.0)
lt-plus (fin false m e) nan a b v w h = absurd w
lt-plus (fin false m e) (inf t) a b v w h = absurd w
lt-plus (fin false m e) (fin true n d) a b v w h = absurd (true≢false w.0)
lt-plus (fin false m e) (fin false n d) a b v w h =
    lt→ltb (m * up e * down d) (n * up d * down e) (fractions-lt (m * up e) (n * up d) (down e) (down d) a b (2 ^ 1074) (pow_pos 1074) v.1 w.1 (down_pos e) (down_pos d) h)

pub turn-value : (x : Float) (a c : ℕ) → HasValue x true a c → HasValue (neg x) false a c
unfolding neg
turn-value nan a c v = v
turn-value (inf s) a c v = v
turn-value (fin true m e) a c v = (refl, v.1)
turn-value (fin false m e) a c v = absurd (false≢true v.0)

pub lt-minus : (x y : Float) (a b : ℕ) → HasValue x true a (2 ^ 1074) → HasValue y true b (2 ^ 1074) → b < a → T (lt x y)
lt-minus x y a b v w h = subst T (sym (lt-neg x y)) (lt-plus (neg y) (neg x) b a (turn-value y b (2 ^ 1074) w) (turn-value x a (2 ^ 1074) v) h)

lt-bottom : (y : Float) (s : Bool) (a c : ℕ) → HasValue y s a c → T (lt (inf true) y)
unfolding lt
lt-bottom nan s a c v = absurd v
lt-bottom (inf t) s a c v = absurd v
lt-bottom (fin t n d) s a c v = tt

-- ---- the float after a pattern's
pub top-plus : of_bits binary64 9218868437227405312 ≡ inf false
unfolding of_bits
top-plus = refl

pub top-minus : of_bits binary64 18442240474082181120 ≡ inf true
unfolding of_bits
top-minus = refl

pub after_plus : (b : ℕ) → b < 9223372036854775808 → after b ≡ of_bits binary64 (b + 1)
unfolding after
after_plus b h = ap (λ (t : Bool). cond t (of_bits binary64 (b + 1)) (cond (eqb b 9223372036854775808) (of_bits binary64 1) (of_bits binary64 (b - 1)))) (is_true (ltb b 9223372036854775808) (lt→ltb b 9223372036854775808 h))

pub after-zero : after 9223372036854775808 ≡ of_bits binary64 1
unfolding after
after-zero = refl

pub after_minus : (b : ℕ) → 9223372036854775808 < b → after b ≡ of_bits binary64 (b - 1)
unfolding after
after_minus b h =
    ap (λ (t : Bool). cond t (of_bits binary64 (b + 1)) (cond (eqb b 9223372036854775808) (of_bits binary64 1) (of_bits binary64 (b - 1))))
    (is_false (ltb b 9223372036854775808) (not_T (ltb b 9223372036854775808) (λ (u : T (ltb b 9223372036854775808)). no_less b h (ltb→lt b 9223372036854775808 u))))
    ∙ ap (λ (t : Bool). cond t (of_bits binary64 1) (of_bits binary64 (b - 1)))
    (is_false (eqb b 9223372036854775808) (not_T (eqb b 9223372036854775808) (λ (u : T (eqb b 9223372036854775808)). no_same b h (eqb→eq b 9223372036854775808 u))))
  where
    no_less : (b : ℕ) → 9223372036854775808 < b → b < 9223372036854775808 → ⊥
    no_less b h k = omega arith

    no_same : (b : ℕ) → 9223372036854775808 < b → b ≡ 9223372036854775808 → ⊥
    no_same b h k = omega arith

higher-plus : (b : ℕ) → b < 9218868437227405312 → Higher (of_bits binary64 b) (of_bits binary64 (b + 1))
higher-plus b h = go (eq-or-lt_of_le (next b h))
  where
    next : (b : ℕ) → b < 9218868437227405312 → b + 1 ≤ 9218868437227405312
    next b h = omega arith

    go : (b + 1 ≡ 9218868437227405312) ⊎ (b + 1 < 9218868437227405312) → Higher (of_bits binary64 b) (of_bits binary64 (b + 1))
    go (inl e) = inl (ap (of_bits binary64) e ∙ top-plus)
    go (inr l) = inr (lt-plus (of_bits binary64 b) (of_bits binary64 (b + 1)) (size_of b) (size_of (b + 1)) (plus-value b h) (plus-value (b + 1) l) (grows b))

higher-zero : Higher (of_bits binary64 9223372036854775808) (of_bits binary64 1)
unfolding of_bits lt
higher-zero = inr tt

-- c + 1 is the pattern without its sign
higher-minus : (c : ℕ) → c < 9218868437227405312 → Higher (of_bits binary64 (9223372036854775808 + (c + 1))) (of_bits binary64 (9223372036854775808 + c))
higher-minus c h = go (eq-or-lt_of_le (next c h))
  where
    next : (c : ℕ) → c < 9218868437227405312 → c + 1 ≤ 9218868437227405312
    next c h = omega arith

    go : (c + 1 ≡ 9218868437227405312) ⊎ (c + 1 < 9218868437227405312) → Higher (of_bits binary64 (9223372036854775808 + (c + 1))) (of_bits binary64 (9223372036854775808 + c))
    go (inl e) = inr (subst (λ (x : Float). T (lt x (of_bits binary64 (9223372036854775808 + c)))) (sym (ap (λ (n : ℕ). of_bits binary64 (9223372036854775808 + n)) e ∙ top-minus)) (lt-bottom (of_bits binary64 (9223372036854775808 + c)) true (size_of c) (2 ^ 1074) (minus-value c h)))
    go (inr l) = inr (lt-minus (of_bits binary64 (9223372036854775808 + (c + 1))) (of_bits binary64 (9223372036854775808 + c)) (size_of (c + 1)) (size_of c) (minus-value (c + 1) l) (minus-value c h) (grows c))

-- a pattern that is no NaN's, and not +infinity's
pub after-higher : (b : ℕ) → b < 2 ^ 64 → b % 9223372036854775808 ≤ 9218868437227405312 → (b ≡ 9218868437227405312 → ⊥) → Higher (of_bits binary64 b) (after b)
after-higher b w f n = go (which b w f n)
  where
    which : (b : ℕ) → b < 2 ^ 64 → b % 9223372036854775808 ≤ 9218868437227405312 → (b ≡ 9218868437227405312 → ⊥)
        → (b < 9218868437227405312) ⊎ ((b ≡ 9223372036854775808) ⊎ ((c : ℕ) × (b ≡ 9223372036854775808 + (c + 1)) × (c < 9218868437227405312)))
    which b w f n = split (ltb b 9223372036854775808) (ltb→lt b 9223372036854775808) (nltb→le b 9223372036854775808)
      where
        split : (t : Bool) → (T t → b < 9223372036854775808) → (T (not t) → 9223372036854775808 ≤ b) → (b < 9218868437227405312) ⊎ ((b ≡ 9223372036854775808) ⊎ ((c : ℕ) × (b ≡ 9223372036854775808 + (c + 1)) × (c < 9218868437227405312)))
        split true y k = let l = y tt in inl (omega arith)
        split false y k = let l = k tt in inr (⊎_elim (λ (e : 9223372036854775808 ≡ b). inl (sym e)) (λ (g : 9223372036854775808 < b). inr (b - 9223372036854775809, omega arith, omega arith)) (eq-or-lt_of_le l))

    same : (c : ℕ) → 9223372036854775808 + (c + 1) - 1 ≡ 9223372036854775808 + c
    same c = omega arith

    go : (b < 9218868437227405312) ⊎ ((b ≡ 9223372036854775808) ⊎ ((c : ℕ) × (b ≡ 9223372036854775808 + (c + 1)) × (c < 9218868437227405312))) → Higher (of_bits binary64 b) (after b)
    go (inl l) = subst (Higher (of_bits binary64 b)) (sym (after_plus b (omega arith))) (higher-plus b l)
    go (inr (inl e)) = subst (λ (x : ℕ). Higher (of_bits binary64 x) (after x)) (sym e) (subst (Higher (of_bits binary64 9223372036854775808)) (sym after-zero) higher-zero)
    go (inr (inr z)) =
        let c = z.0 in
        subst (λ (x : ℕ). Higher (of_bits binary64 x) (after x)) (sym z.1)
        (subst (Higher (of_bits binary64 (9223372036854775808 + (c + 1)))) (sym (after_minus (9223372036854775808 + (c + 1)) (omega arith) ∙ ap (of_bits binary64) (same c))) (higher-minus c z.2))

after-fits : (b : ℕ) → T (fits binary64 (after b))
unfolding after
after-fits b =
    cond-fits binary64 (ltb b 9223372036854775808) (of_bits binary64 (b + 1)) (cond (eqb b 9223372036854775808) (of_bits binary64 1) (of_bits binary64 (b - 1))) (of_bits-fits binary64 (b + 1))
    (cond-fits binary64 (eqb b 9223372036854775808) (of_bits binary64 1) (of_bits binary64 (b - 1)) (of_bits-fits binary64 1) (of_bits-fits binary64 (b - 1)))

-- ---- the answers of `next_up`

pub of_nan : NextUp nan (inf false)
unfolding next_up
of_nan = record { is = refl; f64 = inf-fits binary64 false; higher = inl refl }

pub of-top : NextUp (inf false) (inf false)
unfolding next_up
of-top = record { is = refl; f64 = inf-fits binary64 false; higher = inl refl }

pub of_other : (x : Float) → (x ≡ nan → ⊥) → (x ≡ inf false → ⊥) → next_up x ≡ after (to_bits binary64 x)
unfolding next_up
of_other nan n i = absurd (n refl)
of_other (inf true) n i = refl
of_other (inf false) n i = absurd (i refl)
of_other (fin s m e) n i = refl

pub next-up-is : (x : Float) → T (fits binary64 x) → T (not (is_nan x)) → (to_bits binary64 x ≡ 9218868437227405312 → ⊥) → NextUp x (after (to_bits binary64 x))
unfolding is_nan
next-up-is x f n i =
    let b = to_bits binary64 x in
    let back : of_bits binary64 b ≡ x = of_bits-to_bits binary64 x f in
    let no_nan : x ≡ nan → ⊥ = λ e. subst (λ (y : Float). T (not (is_nan y))) e n in
    let no_top : x ≡ inf false → ⊥ = λ e. i (ap (to_bits binary64) e ∙ bits-top) in
    record {
      is = sym (of_other x no_nan no_top);
      f64 = after-fits b;
      higher = subst (λ (y : Float). Higher y (after b)) back (after-higher b (to_bits-lt binary64 x f) (no-nan-le b (subst (λ (y : Float). T (not (is_nan y))) (sym back) n)) i);
    }
  where
    bits-top : to_bits binary64 (inf false) ≡ 9218868437227405312
    bits-top = unfold to_bits in refl

-- ---- down
pub next-down-is : (x u : Float) → NextUp (neg x) u → NextDown x (neg u)
unfolding next_down
next-down-is x u h = record {
  is = ap neg h.is;
  f64 = neg-fits binary64 u h.f64;
  lower = ⊎_elim (λ (e : u ≡ inf false). inl (ap neg e ∙ neg-top)) (λ (l : T (lt (neg x) u)). inr (subst T (lt-neg (neg x) u ∙ ap (lt (neg u)) (neg-neg x)) l)) h.higher;
}
  where
    neg-top : neg (inf false) ≡ inf true
    neg-top = unfold neg in refl

neg-bottom : neg (inf true) ≡ inf false
unfolding neg
neg-bottom = refl

neg-top : neg (inf false) ≡ inf true
unfolding neg
neg-top = refl

pub higher-of-lower : (x z : Float) → Lower x (neg z) → Higher (neg x) z
higher-of-lower x z (inl e) = inl (sym (neg-neg z) ∙ ap neg e ∙ neg-bottom)
higher-of-lower x z (inr l) = inr (subst T (lt-neg (neg z) x ∙ ap (lt (neg x)) (neg-neg z)) l)

pub lower-of-higher : (M z : Float) → Higher (neg M) z → Lower M (neg z)
lower-of-higher M z (inl e) = inl (ap neg e ∙ neg-top)
lower-of-higher M z (inr l) = inr (subst T (lt-neg (neg M) z ∙ ap (lt (neg z)) (neg-neg M)) l)

pub next-up-turned : (x z : Float) → NextDown x z → NextUp (neg x) (neg z)
unfolding next_down
next-up-turned x z h = record {
  is = ap neg h.is ∙ neg-neg (next_up (neg x));
  f64 = neg-fits binary64 z h.f64;
  higher = higher-of-lower x (neg z) (subst (Lower x) (sym (neg-neg z)) h.lower);
}
