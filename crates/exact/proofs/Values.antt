-- A float's value: the claims of `specs/Claims.antt`. Assumes nothing.
use Prim.Native.Nat.{ℕ, ◌+◌, ◌*◌, ◌^◌, ◌≤◌, ◌<◌}
use mathlib.Core.Path.{◌≡◌, refl, sym, ap, ◌∙◌, subst}
use mathlib.Core.Bool.{Bool, true, false, not, ◌&&◌, ◌||◌, true≢false}
use mathlib.Core.Logic.{◌⊎◌, inl, inr}
use native.Mathlib.Nat.{le_of_lt, le_of_eq, eq-or-lt_of_le, eq-zero-or-pos, mul-lt-mul_of_pos_right, lt_of_mul-lt-mul_right}
use native.Mathlib.Omega.{arith}
use lib.IntN.{ℤ}
use lib.Dec.{T, ltb, eqb, ltb→lt, lt→ltb, nltb→le, eqb→eq}
use lib.Pow.{pow_pos}
use lib.Ieee.{Float, nan, inf, fin, up, down, lt, le, eq, neg, below, level}
use lib.Ieee.Fits.{and_l, and_r, eq→eqb}
use Rattle.numbers.specs.Numbers.{+0}
use Rattle.exact.specs.Exact.{ℚ, ◌≤ℚ◌, ◌<ℚ◌, ◌≈ℚ◌, whole, negℚ, Finite, signed, value}
use Rattle.exact.proofs.Laws as laws
use Rattle.exact.specs.Claims.{LessIsLess, NotLessIsAtLeast, AtMostIsAtMost, SizeIsValue, UnitsAreValue, NegIsNeg}

pub told : (b : Bool) → T b → b ≡ true
told true t = refl
told false t = absurd t

pub asked : (b : Bool) → b ≡ true → T b
asked b h = subst T (sym h) tt

pub and_left : (a b : Bool) → (a && b) ≡ true → a ≡ true
and_left true b h = refl
and_left false b h = absurd (true≢false (sym h))

pub and_right : (a b : Bool) → (a && b) ≡ true → b ≡ true
and_right true b h = h
and_right false b h = absurd (true≢false (sym h))

-- the four pairs of signs, in whole numbers multiplied across
less : (s t : Bool) (m n : ℕ) (e d : ℤ) → T (below s (m * up e * down d) t (n * up d * down e)) → signed s m e <ℚ signed t n d
unfolding ◌<ℚ◌ signed negℚ
less false false m n e d h = let k : m * up e * down d < n * up d * down e = ltb→lt (m * up e * down d) (n * up d * down e) h in omega arith
less false true m n e d h = absurd h
less true false m n e d h = let k : 0 < m * up e * down d + n * up d * down e = ltb→lt 0 (m * up e * down d + n * up d * down e) h in omega arith
less true true m n e d h = let k : n * up d * down e < m * up e * down d = ltb→lt (n * up d * down e) (m * up e * down d) h in omega arith

below_of : (s t : Bool) (m n : ℕ) (e d : ℤ) → signed s m e <ℚ signed t n d → T (below s (m * up e * down d) t (n * up d * down e))
unfolding ◌<ℚ◌ signed negℚ
below_of false false m n e d h = lt→ltb (m * up e * down d) (n * up d * down e) (omega arith)
below_of false true m n e d h = absurd (omega arith)
below_of true false m n e d h = lt→ltb 0 (m * up e * down d + n * up d * down e) (omega arith)
below_of true true m n e d h = lt→ltb (n * up d * down e) (m * up e * down d) (omega arith)

pub less-is-less : LessIsLess
unfolding value lt
less-is-less nan y fx fy = absurd fx
less-is-less (inf s) y fx fy = absurd fx
less-is-less (fin s m e) nan fx fy = absurd fy
less-is-less (fin s m e) (inf t) fx fy = absurd fy
less-is-less (fin s m e) (fin t n d) fx fy = (
  λ h. less s t m n e d (asked (below s (m * up e * down d) t (n * up d * down e)) h),
  λ h. told (below s (m * up e * down d) t (n * up d * down e)) (below_of s t m n e d h),
)

not-less : (a b : ℚ) → (a <ℚ b → ⊥) → b ≤ℚ a
unfolding ◌<ℚ◌ ◌≤ℚ◌
not-less a b h = go (ltb l r) (λ t. h (ltb→lt l r t)) (nltb→le l r)
  where
    l : ℕ
    l = a.plus * b.den + b.minus * a.den

    r : ℕ
    r = b.plus * a.den + a.minus * b.den

    go : (t : Bool) → (T t → ⊥) → (T (not t) → r ≤ l) → b.plus * a.den + a.minus * b.den ≤ a.plus * b.den + b.minus * a.den
    go true f g = absurd (f tt)
    go false f g = g tt

at_least : (a b : ℚ) → b ≤ℚ a → a <ℚ b → ⊥
unfolding ◌<ℚ◌ ◌≤ℚ◌
at_least a b h k = omega arith

pub not-less-is-at-least : NotLessIsAtLeast
not-less-is-at-least x y fx fy = (
  λ h. not-less (value x) (value y) (λ k. true≢false (sym ((less-is-less x y fx fy).1 k) ∙ h)),
  λ h. go (lt x y) (λ k. at_least (value x) (value y) h ((less-is-less x y fx fy).0 k)),
)
  where
    go : (b : Bool) → (b ≡ true → ⊥) → b ≡ false
    go true f = absurd (f refl)
    go false f = refl

-- the four pairs of signs for `le`, which is `lt` or the same size and, but for zeros, the same sign
pub or_split : (a b : Bool) → T (a || b) → T a ⊎ T b
or_split true b t = inl tt
or_split false b t = inr t

or_left : (a b : Bool) → T a → T (a || b)
or_left true b t = tt
or_left false b t = absurd t

or_right : (a b : Bool) → T b → T (a || b)
or_right true b t = tt
or_right false b t = t

and_both : (a b : Bool) → T a → T b → T (a && b)
and_both true b t u = u
and_both false b t u = absurd t

pub at_most : (a b : ℕ) → T (ltb a b || (eqb a b && true)) → a ≤ b
at_most a b t = elim (or_split (ltb a b) (eqb a b && true) t) [ inl u ↦ le_of_lt (ltb→lt a b u) | inr u ↦ le_of_eq (eqb→eq a b (and_l (eqb a b) true u)) ]

of-at-most : (a b : ℕ) → a ≤ b → T (ltb a b || (eqb a b && true))
of-at-most a b h = elim (eq-or-lt_of_le h) [ inl e ↦ or_right (ltb a b) (eqb a b && true) (and_both (eqb a b) true (eq→eqb e) tt) | inr l ↦ or_left (ltb a b) (eqb a b && true) (lt→ltb a b l) ]

both_zero : (a b : ℕ) → T (eqb a b && (false || eqb a 0)) → (a ≡ b) × (a ≡ 0)
both_zero a b t = (eqb→eq a b (and_l (eqb a b) (eqb a 0) t), eqb→eq a 0 (and_r (eqb a b) (eqb a 0) t))

no_more : (s t : Bool) (m n : ℕ) (e d : ℤ) → T (below s (m * up e * down d) t (n * up d * down e) || level s (m * up e * down d) t (n * up d * down e)) → signed s m e ≤ℚ signed t n d
unfolding ◌≤ℚ◌ signed negℚ
no_more false false m n e d h = let k = at_most (m * up e * down d) (n * up d * down e) h in omega arith
no_more false true m n e d h = let k = both_zero (m * up e * down d) (n * up d * down e) h in omega arith
no_more true false m n e d h = omega arith
no_more true true m n e d h = let k = at_most (n * up d * down e) (m * up e * down d) (turn (n * up d * down e) (m * up e * down d) h) in omega arith
  where
    turn : (a b : ℕ) → T (ltb a b || (eqb b a && true)) → T (ltb a b || (eqb a b && true))
    turn a b t = elim (or_split (ltb a b) (eqb b a && true) t) [ inl u ↦ or_left (ltb a b) (eqb a b && true) u | inr u ↦ or_right (ltb a b) (eqb a b && true) (and_both (eqb a b) true (eq→eqb (sym (eqb→eq b a (and_l (eqb b a) true u)))) tt) ]

no_more_of : (s t : Bool) (m n : ℕ) (e d : ℤ) → signed s m e ≤ℚ signed t n d → T (below s (m * up e * down d) t (n * up d * down e) || level s (m * up e * down d) t (n * up d * down e))
unfolding ◌≤ℚ◌ signed negℚ
no_more_of false false m n e d h = of-at-most (m * up e * down d) (n * up d * down e) (omega arith)
no_more_of false true m n e d h = zeros (m * up e * down d) (n * up d * down e) (omega arith) (omega arith)
  where
    zeros : (a b : ℕ) → a ≡ 0 → b ≡ 0 → T (eqb a b && (false || eqb a 0))
    zeros a b i j = and_both (eqb a b) (eqb a 0) (eq→eqb (i ∙ sym j)) (eq→eqb i)
no_more_of true false m n e d h = either (m * up e * down d) (n * up d * down e)
  where
    either : (a b : ℕ) → T (ltb 0 (a + b) || (eqb a b && (false || eqb a 0)))
    either a b = elim (eq-zero-or-pos (a + b)) [
      | inl z ↦ or_right (ltb 0 (a + b)) (eqb a b && (false || eqb a 0)) (let i : a ≡ b = omega arith in let j : a ≡ 0 = omega arith in and_both (eqb a b) (eqb a 0) (eq→eqb i) (eq→eqb j))
      | inr l ↦ or_left (ltb 0 (a + b)) (eqb a b && (false || eqb a 0)) (lt→ltb 0 (a + b) l)
    ]
no_more_of true true m n e d h = turn (m * up e * down d) (n * up d * down e) (of-at-most (n * up d * down e) (m * up e * down d) (omega arith))
  where
    turn : (a b : ℕ) → T (ltb b a || (eqb b a && true)) → T (ltb b a || (eqb a b && true))
    turn a b t = elim (or_split (ltb b a) (eqb b a && true) t) [ inl u ↦ or_left (ltb b a) (eqb a b && true) u | inr u ↦ or_right (ltb b a) (eqb a b && true) (and_both (eqb a b) true (eq→eqb (sym (eqb→eq b a (and_l (eqb b a) true u)))) tt) ]

pub at-most-is-at-most : AtMostIsAtMost
unfolding value le
at-most-is-at-most nan y fx fy = absurd fx
at-most-is-at-most (inf s) y fx fy = absurd fx
at-most-is-at-most (fin s m e) nan fx fy = absurd fy
at-most-is-at-most (fin s m e) (inf t) fx fy = absurd fy
at-most-is-at-most (fin s m e) (fin t n d) fx fy = (λ h. no_more s t m n e d (subst T (sym h) tt), λ h. told (le (fin s m e) (fin t n d)) (no_more_of s t m n e d h))

-- floats that are equal are one number
same_number : (s t : Bool) (m n : ℕ) (e d : ℤ) → T (level s (m * up e * down d) t (n * up d * down e)) → signed s m e ≈ℚ signed t n d
unfolding ◌≈ℚ◌ signed negℚ
same_number false false m n e d h = let k = eqb→eq (m * up e * down d) (n * up d * down e) (and_l (eqb (m * up e * down d) (n * up d * down e)) true h) in omega arith
same_number false true m n e d h = let k = both_zero (m * up e * down d) (n * up d * down e) h in omega arith
same_number true false m n e d h = let k = both_zero (m * up e * down d) (n * up d * down e) h in omega arith
same_number true true m n e d h = let k = eqb→eq (m * up e * down d) (n * up d * down e) (and_l (eqb (m * up e * down d) (n * up d * down e)) true h) in omega arith

pub equal-is-same : (x y : Float) → Finite y → eq x y ≡ true → Finite x × (value x ≈ℚ value y)
unfolding value eq
equal-is-same nan y f h = absurd (true≢false (sym h))
equal-is-same (inf s) nan f h = absurd f
equal-is-same (inf s) (inf t) f h = absurd f
equal-is-same (inf s) (fin t n d) f h = absurd (true≢false (sym h))
equal-is-same (fin s m e) nan f h = absurd f
equal-is-same (fin s m e) (inf t) f h = absurd f
equal-is-same (fin s m e) (fin t n d) f h = (tt, same_number s t m n e d (asked (level s (m * up e * down d) t (n * up d * down e)) h))

pub size-is-value : SizeIsValue
unfolding value signed negℚ ◌≈ℚ◌
size-is-value nan a c p = (λ h. absurd h, λ h. absurd h)
size-is-value (inf s) a c p = (λ h. absurd h, λ h. absurd h)
size-is-value (fin false m e) a c p = (λ h. let k : m * up e * c ≡ a * down e = h.1 in omega arith, λ h. absurd (true≢false (sym h.0)))
size-is-value (fin true m e) a c p = (λ h. absurd (true≢false h.0), λ h. let k : m * up e * c ≡ a * down e = h.1 in omega arith)

pub units-are-value : UnitsAreValue
units-are-value x n h = (size-is-value x n (2 ^ 1074) (pow_pos 1074)).0 h

pub neg-is-neg : NegIsNeg
unfolding value signed neg negℚ ◌≈ℚ◌
neg-is-neg nan f = absurd f
neg-is-neg (inf s) f = absurd f
neg-is-neg (fin false m e) f = refl
neg-is-neg (fin true m e) f = refl

-- zero's value, and what a test against it says
pub zero-value : value +0 ≈ℚ whole 0
unfolding value signed ◌≈ℚ◌
zero-value = refl

pub lt-left : (a a' b : ℚ) → a ≈ℚ a' → a <ℚ b → a' <ℚ b
unfolding ◌<ℚ◌ ◌≈ℚ◌
lt-left a a' b h l = go a.plus a.minus a.den a'.plus a'.minus a'.den b.plus b.minus b.den a'.above h l
  where
    go : (p m d p' m' d' q n e : ℕ) → 0 < d' → p * d' + m' * d ≡ p' * d + m * d' → p * e + n * d < q * d + m * e → p' * e + n * d' < q * d' + m' * e
    go p m d p' m' d' q n e pd h l =
        let k : (p * d' + m' * d) * e ≡ (p' * d + m * d') * e = ap (λ (x : ℕ). x * e) h in
        let w : (p * e + n * d) * d' < (q * d + m * e) * d' = mul-lt-mul_of_pos_right l pd in
        lt_of_mul-lt-mul_right d (omega arith)

pub lt-right : (a b b' : ℚ) → b ≈ℚ b' → a <ℚ b → a <ℚ b'
unfolding ◌<ℚ◌ ◌≈ℚ◌
lt-right a b b' h l = go b.plus b.minus b.den b'.plus b'.minus b'.den a.plus a.minus a.den b'.above h l
  where
    go : (p m d p' m' d' q n e : ℕ) → 0 < d' → p * d' + m' * d ≡ p' * d + m * d' → q * d + m * e < p * e + n * d → q * d' + m' * e < p' * e + n * d'
    go p m d p' m' d' q n e pd h l =
        let k : (p * d' + m' * d) * e ≡ (p' * d + m * d') * e = ap (λ (x : ℕ). x * e) h in
        let w : (q * d + m * e) * d' < (p * e + n * d) * d' = mul-lt-mul_of_pos_right l pd in
        lt_of_mul-lt-mul_right d (omega arith)

pub above_zero : (x : Float) → Finite x → lt +0 x ≡ true → whole 0 <ℚ value x
above_zero x f h = lt-left (value +0) (whole 0) (value x) zero-value ((less-is-less +0 x tt f).0 h)

pub not-below-zero : (x : Float) → Finite x → lt x +0 ≡ false → whole 0 ≤ℚ value x
not-below-zero x f h = laws.le_left (value +0) (whole 0) (value x) zero-value ((not-less-is-at-least x +0 f tt).0 h)
