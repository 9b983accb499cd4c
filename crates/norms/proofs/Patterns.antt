-- The patterns of f64s without their signs: their order, and what they stand for. 4503599627370496 is 2 ^ 52, 9223372036854775808 is 2 ^ 63, the sign's bit, and
-- 9218868437227405312 is 2047 * 2 ^ 52, the infinity's pattern.
use mathlib.Core.Path.{◌≡◌, refl, sym, ap, ap₂, ◌∙◌, subst}
use mathlib.Core.Logic.{◌⊎◌, inl, inr, ⊎_elim}
use mathlib.Core.List.{List}
use Prim.Native.Nat.{ℕ, suc, ◌+◌, ◌-◌, ◌*◌, ◌/◌, ◌%◌, ◌^◌, ◌≤◌, ◌<◌, max}
use native.Mathlib.Nat.{le_trans, le_of_eq, le_of_lt, lt_of_lt_of_le, lt_of_le_of_lt, eq-or-lt_of_le, mul-one, mul-le-mul_right, mod-eq_of_lt}
use native.Mathlib.Numerals.{add-one}
use native.Mathlib.Omega.{arith}
use mathlib.Core.Bool.{Bool, true, false, not, cond, ◌||◌}
use lib.Dec.{T, ltb, leb, ltb→lt, lt→ltb, nltb→le, leb→le, le→leb, not_T, lit≤}
use lib.Count.{count_leading_zeros, leading_top}
use lib.Pow.{pow-add, pow_mono, shl_lt}
use lib.Ieee.{Float, nan, inf, fin, binary64, size, odd, fits, is_nan, of_bits, of_fields, to_bits}
use lib.Ieee.Bits.{is_true, is_false, of_bits-to_bits}
use lib.Ieee.Exact.{HasValue, odd_sign}
use lib.ListN.{length}
use Rattle.numbers.specs.Numbers.{Σ, at, dot, ◌⊗◌}
use Rattle.numbers.proofs.Sums.{Σ-same}
use Rattle.numbers.specs.Root.{sqrt_of}
use Rattle.numbers.proofs.Lists.{get_d-tab, length-tab}
use Rattle.numbers.proofs.Patterns.{of_bits_is, under_ones, at_zero, no-nan-le}
use Rattle.numbers.proofs.RootAt.{size_exact}
use Rattle.norms.specs.Norm.{plain_norm, scaled, reduced, has_nan, has_inf, is_inf, largest}
use Rattle.norms.specs.inner.Patterns.{units_of, PatternOf, LargestPattern}
use Rattle.norms.proofs.Scaled.{magnitude-is, max-is}

-- ---- the units of a pattern
units-low : (b : ℕ) → b < 4503599627370496 → units_of b ≡ b
units-low b h = ap (λ (t : Bool). cond t b ((4503599627370496 + b % 4503599627370496) * 2 ^ (b / 4503599627370496 - 1))) (is_true (ltb b 4503599627370496) (lt→ltb b 4503599627370496 h))

units-high : (b : ℕ) → 4503599627370496 ≤ b → units_of b ≡ (4503599627370496 + b % 4503599627370496) * 2 ^ (b / 4503599627370496 - 1)
units-high b h =
    ap (λ (t : Bool). cond t b ((4503599627370496 + b % 4503599627370496) * 2 ^ (b / 4503599627370496 - 1)))
    (is_false (ltb b 4503599627370496) (not_T (ltb b 4503599627370496) (λ (u : T (ltb b 4503599627370496)). clash b h (ltb→lt b 4503599627370496 u))))
  where
    clash : (b : ℕ) → 4503599627370496 ≤ b → b < 4503599627370496 → ⊥
    clash b h l = omega arith

low_or_high : (b : ℕ) → (b < 4503599627370496) ⊎ (4503599627370496 ≤ b)
low_or_high b = go (ltb b 4503599627370496) (ltb→lt b 4503599627370496) (nltb→le b 4503599627370496)
  where
    go : (t : Bool) → (T t → b < 4503599627370496) → (T (not t) → 4503599627370496 ≤ b) → (b < 4503599627370496) ⊎ (4503599627370496 ≤ b)
    go true y n = inl (y tt)
    go false y n = inr (n tt)

-- a pattern with the field f + 1 has f + 53 digits
high-ge : (b : ℕ) → 4503599627370496 ≤ b → 2 ^ (52 + (b / 4503599627370496 - 1)) ≤ units_of b
high-ge b h = le_trans (le_of_eq (pow-add 2 52 (b / 4503599627370496 - 1))) (le_trans (mul-le-mul_right (2 ^ (b / 4503599627370496 - 1)) (ge (b % 4503599627370496))) (le_of_eq (sym (units-high b h))))
  where
    ge : (r : ℕ) → 2 ^ 52 ≤ 4503599627370496 + r
    ge r = omega arith

high_lt : (b : ℕ) → 4503599627370496 ≤ b → units_of b < 2 ^ suc (52 + (b / 4503599627370496 - 1))
high_lt b h = lt_of_le_of_lt (le_of_eq (units-high b h)) (lt_of_lt_of_le (shl_lt 53 (b / 4503599627370496 - 1) (lt b)) (le_of_eq (ap (λ (n : ℕ). 2 ^ n) (same (b / 4503599627370496 - 1)))))
  where
    lt : (b : ℕ) → 4503599627370496 + b % 4503599627370496 < 2 ^ 53
    lt b = omega arith

    same : (f : ℕ) → 53 + f ≡ suc (52 + f)
    same f = omega arith

-- they keep the order
pub units_mono : (a b : ℕ) → a ≤ b → units_of a ≤ units_of b
units_mono a b h = ⊎_elim
    (λ (l : a < 4503599627370496).
    ⊎_elim
    (λ (k : b < 4503599627370496). le_trans (le_of_eq (units-low a l)) (le_trans h (le_of_eq (sym (units-low b k)))))
    (λ (k : 4503599627370496 ≤ b). le_trans (le_of_eq (units-low a l)) (le_trans (le_of_lt l) (le_trans (pow_mono {i = 52} {j = 52 + (b / 4503599627370496 - 1)} (at_least (b / 4503599627370496 - 1))) (high-ge b k))))
    (low_or_high b))
    (λ (l : 4503599627370496 ≤ a).
    let k : 4503599627370496 ≤ b = le_trans l h in
    ⊎_elim
    (λ (e : a / 4503599627370496 ≡ b / 4503599627370496).
    le_trans (le_of_eq (units-high a l)) (le_trans (mul-le-mul_right (2 ^ (a / 4503599627370496 - 1)) (same-field a b h e))
    (le_of_eq (ap (λ (f : ℕ). (4503599627370496 + b % 4503599627370496) * 2 ^ (f - 1)) e ∙ sym (units-high b k)))))
    (λ (m : a / 4503599627370496 < b / 4503599627370496).
    le_trans (le_of_lt (high_lt a l)) (le_trans (pow_mono (next a b l m)) (high-ge b k)))
    (eq-or-lt_of_le (fields a b h)))
    (low_or_high a)
  where
    at_least : (f : ℕ) → 52 ≤ 52 + f
    at_least f = omega arith

    fields : (a b : ℕ) → a ≤ b → a / 4503599627370496 ≤ b / 4503599627370496
    fields a b h = omega arith

    same-field : (a b : ℕ) → a ≤ b → a / 4503599627370496 ≡ b / 4503599627370496 → 4503599627370496 + a % 4503599627370496 ≤ 4503599627370496 + b % 4503599627370496
    same-field a b h e = omega arith

    next : (a b : ℕ) → 4503599627370496 ≤ a → a / 4503599627370496 < b / 4503599627370496 → suc (52 + (a / 4503599627370496 - 1)) ≤ 52 + (b / 4503599627370496 - 1)
    next a b l m = omega arith

-- ---- how many digits they have
pub digits-high : (b : ℕ) → 4503599627370496 ≤ b → size (units_of b) ≡ 52 + b / 4503599627370496
digits-high b h = size_exact (52 + (b / 4503599627370496 - 1)) (units_of b) (high-ge b h) (high_lt b h) ∙ same b h
  where
    same : (b : ℕ) → 4503599627370496 ≤ b → suc (52 + (b / 4503599627370496 - 1)) ≡ 52 + b / 4503599627370496
    same b h = omega arith

pub digits_low : (b : ℕ) → 0 < b → b < 4503599627370496 → (size (units_of b) ≡ 64 - count_leading_zeros 64 b) × (count_leading_zeros 64 b ≤ 63)
digits_low b p h =
    let t = leading_top 64 b p (lt_of_lt_of_le h (lit≤ tt)) in
    (ap size (units-low b h) ∙ size_exact t.0 b t.2 t.3 ∙ count (count_leading_zeros 64 b) t.0 t.1, under (count_leading_zeros 64 b) t.0 t.1)
  where
    count : (z t : ℕ) → z + suc t ≡ 64 → suc t ≡ 64 - z
    count z t e = omega arith

    under : (z t : ℕ) → z + suc t ≡ 64 → z ≤ 63
    under z t e = omega arith

-- ---- the pattern of a value
finite-value : (s : Bool) (n c : ℕ) (x : Float) → c < 9218868437227405312 → HasValue x s n (2 ^ 1074) → units_of c ≡ n → PatternOf x c
unfolding is_nan
finite-value s n c nan h v e = absurd v
finite-value s n c (inf t) h v e = absurd v
finite-value s n c (fin t m d) h v e = record {
  number = sym (is_false (ltb 9218868437227405312 c) (not_T (ltb 9218868437227405312 c) (λ (u : T (ltb 9218868437227405312 c)). over c h (ltb→lt 9218868437227405312 c u))));
  infinite = sym (is_false (leb 9218868437227405312 c) (not_T (leb 9218868437227405312 c) (λ (u : T (leb 9218868437227405312 c)). reach c h (leb→le 9218868437227405312 c u))));
  units = λ _. magnitude-is (fin t m d) s n v ∙ sym e;
}
  where
    over : (c : ℕ) → c < 9218868437227405312 → 9218868437227405312 < c → ⊥
    over c h u = omega arith

    reach : (c : ℕ) → c < 9218868437227405312 → 9218868437227405312 ≤ c → ⊥
    reach c h u = omega arith

of-fields : (s : Bool) (c : ℕ) → c < 9218868437227405312 → PatternOf (of_fields binary64 s (c / 4503599627370496) (c % 4503599627370496)) c
of-fields s c h = ⊎_elim
    (λ (l : c < 4503599627370496).
    subst (λ (x : Float). PatternOf x c) (sym (ap₂ (λ (f t : ℕ). of_fields binary64 s f t) (none c l) (mod-eq_of_lt l) ∙ at_zero s c))
    (finite-value s (c * 2 ^ 0) c (odd 53 s c 0 1074) h (odd_sign 53 s c 0 1074) (units-low c l ∙ sym (mul-one c))))
    (λ (l : 4503599627370496 ≤ c).
    let f = c / 4503599627370496 - 1 in
    let t = c % 4503599627370496 in
    subst (λ (x : Float). PatternOf x c) (sym (ap (λ (f : ℕ). of_fields binary64 s f t) (field c l) ∙ under_ones s t f (field_lt c l h)))
    (finite-value s ((4503599627370496 + t) * 2 ^ f) c (odd 53 s (4503599627370496 + t) f 1074) h (odd_sign 53 s (4503599627370496 + t) f 1074) (units-high c l)))
    (low_or_high c)
  where
    none : (c : ℕ) → c < 4503599627370496 → c / 4503599627370496 ≡ 0
    none c h = omega arith

    field : (c : ℕ) → 4503599627370496 ≤ c → c / 4503599627370496 ≡ suc (c / 4503599627370496 - 1)
    field c h = omega arith

    field_lt : (c : ℕ) → 4503599627370496 ≤ c → c < 9218868437227405312 → suc (c / 4503599627370496 - 1) < 2047
    field_lt c h k = omega arith

infinity : (s : Bool) → PatternOf (of_fields binary64 s 2047 0) 9218868437227405312
unfolding of_fields is_nan
infinity s = record { number = refl; infinite = refl; units = λ h. absurd (none h) }
  where
    none : 9218868437227405312 < 9218868437227405312 → ⊥
    none h = omega arith

ranked-bits : (b : ℕ) → b % 9223372036854775808 ≤ 9218868437227405312 → PatternOf (of_bits binary64 b) (b % 9223372036854775808)
ranked-bits b h =
    let c = b % 9223372036854775808 in
    let s = leb 9223372036854775808 b in
    subst (λ (x : Float). PatternOf x c) (sym (of_bits_is b ∙ ap (λ (t : ℕ). of_fields binary64 s (c / 4503599627370496) t) (digits b)))
    (⊎_elim
    (λ (e : c ≡ 9218868437227405312). subst (λ (c : ℕ). PatternOf (of_fields binary64 s (c / 4503599627370496) (c % 4503599627370496)) c) (sym e) (infinity s))
    (λ (l : c < 9218868437227405312). of-fields s c l)
    (eq-or-lt_of_le h))
  where
    digits : (b : ℕ) → b % 4503599627370496 ≡ b % 9223372036854775808 % 4503599627370496
    digits b = omega arith

pub ranked-nan : PatternOf nan 9221120237041090560
unfolding is_nan
ranked-nan = record { number = refl; infinite = refl; units = λ h. absurd (none h) }
  where
    none : 9221120237041090560 < 9218868437227405312 → ⊥
    none h = omega arith

pub ranked : (x : Float) → T (fits binary64 x) → T (not (is_nan x)) → PatternOf x (to_bits binary64 x % 9223372036854775808)
ranked x f h =
    let e = of_bits-to_bits binary64 x f in
    subst (λ (y : Float). PatternOf y (to_bits binary64 x % 9223372036854775808)) e
    (ranked-bits (to_bits binary64 x) (no-nan-le (to_bits binary64 x) (subst (λ (y : Float). T (not (is_nan y))) (sym e) h)))

-- ---- the largest pattern
or-second : (p q : Bool) → (T p → T q) → p || q ≡ q
or-second true true h = refl
or-second true false h = absurd (h tt)
or-second false q h = refl

or-first : (p q : Bool) → (T q → T p) → p || q ≡ p
or-first true q h = refl
or-first false true h = absurd (h tt)
or-first false false h = refl

le-max : (c a b : ℕ) → leb c a || leb c b ≡ leb c (max a b)
le-max c a b = elim (max-is a b) [
  | inl h ↦ or-second (leb c a) (leb c b) (λ (t : T (leb c a)). le→leb c b (le_trans (leb→le c a t) h.0)) ∙ ap (leb c) (sym h.1)
  | inr h ↦ or-first (leb c a) (leb c b) (λ (t : T (leb c b)). le→leb c a (le_trans (leb→le c b t) h.0)) ∙ ap (leb c) (sym h.1)
]

max-units : (a b : ℕ) → max (units_of a) (units_of b) ≡ units_of (max a b)
max-units a b = elim (max-is a b) [
  | inl h ↦ (let k = units_mono a b h.0 in second (units_of a) (units_of b) k) ∙ ap units_of (sym h.1)
  | inr h ↦ (let k = units_mono b a h.0 in first (units_of a) (units_of b) k) ∙ ap units_of (sym h.1)
]
  where
    second : (a b : ℕ) → a ≤ b → max a b ≡ b
    second a b h = omega arith

    first : (a b : ℕ) → b ≤ a → max a b ≡ a
    first a b h = omega arith

or_swap : (a b c d : Bool) → (a || b) || (c || d) ≡ (a || c) || (b || d)
or_swap true b c d = refl
or_swap false true true d = refl
or_swap false true false d = refl
or_swap false false c d = refl

pub topped-none : (v : List Float) → LargestPattern 0 v 0
unfolding has_nan has_inf largest
topped-none v = record { number = refl; infinite = refl; units = λ h. refl }

pub topped-more : (i : ℕ) (v : List Float) (b r : ℕ) → LargestPattern i v b → PatternOf (at v i) r → LargestPattern (i + 1) v (max b r)
unfolding has_nan has_inf largest
topped-more i v b r t k = subst (λ (n : ℕ). LargestPattern n v (max b r)) (sym (add-one i)) (record {
  number = ap₂ ◌||◌ t.number k.number ∙ le-max 9218868437227405313 b r;
  infinite = or_swap (has_nan i v) (is_nan (at v i)) (has_inf i v) (is_inf (at v i)) ∙ ap₂ ◌||◌ t.infinite k.infinite ∙ le-max 9218868437227405312 b r;
  units = λ h. ap₂ max (t.units (under-l b r h)) (k.units (under-r b r h)) ∙ max-units b r;
})
  where
    under-l : (b r : ℕ) → max b r < 9218868437227405312 → b < 9218868437227405312
    under-l b r h = omega arith

    under-r : (b r : ℕ) → max b r < 9218868437227405312 → r < 9218868437227405312
    under-r b r h = omega arith

-- ---- the squares of the scaled entries
pub reduced-squares : (z : ℕ) (v : List Float) → Σ (length v) (λ k. scaled 1075 z (at v k) ⊗ scaled 1075 z (at v k)) ≡ dot (length v) (reduced z v) (reduced z v)
unfolding dot reduced
reduced-squares z v = Σ-same (length v) _ _ (λ i l. let e = sym (get_d-tab (length v) (λ i. scaled 1075 z (at v i)) nan i l) in ap₂ ◌⊗◌ e e)

pub plain-reduced : (z : ℕ) (v : List Float) → sqrt_of (dot (length v) (reduced z v) (reduced z v)) ≡ plain_norm (reduced z v)
unfolding plain_norm reduced
plain-reduced z v = ap (λ (n : ℕ). sqrt_of (dot n (reduced z v) (reduced z v))) (sym (length-tab (length v) (λ i. scaled 1075 z (at v i))))
