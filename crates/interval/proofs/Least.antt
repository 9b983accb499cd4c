-- `next_up` is the least float above: no float lies between.
use mathlib.Core.Path.{◌≡◌, refl, sym, ap, ◌∙◌, subst}
use mathlib.Core.Logic.{◌⊎◌, inl, inr, ⊎_elim}
use Prim.Native.Nat.{ℕ, zero, suc, ◌+◌, ◌-◌, ◌*◌, ◌%◌, ◌^◌, ◌≤◌, ◌<◌}
use native.Mathlib.Nat.{le_of_eq, lt_of_lt_of_le, lt_trans, lt_irrefl, eq-or-lt_of_le, mul-pos, zero-lt-suc}
use native.Mathlib.Omega.{arith}
use mathlib.Core.Bool.{Bool, true, false, not, true≢false, false≢true}
use lib.IntN.{ℤ}
use lib.Dec.{T, ltb, leb, ltb→lt, nltb→le, nleb→lt, leb→le}
use lib.Pow.{pow_pos}
use lib.Ieee.{Float, nan, inf, fin, binary64, up, down, lt, neg, fits, is_nan, of_bits, to_bits}
use lib.Ieee.Bits.{of_bits-to_bits, to_bits-lt}
use lib.Ieee.Exact.{HasValue}
use lib.Ieee.Fits.{neg-fits}
use Rattle.numbers.proofs.Patterns.{no-nan-le}
use Rattle.interval.specs.Next.{after, next_up, next_down}
use Rattle.interval.proofs.Ends.{NextUp, NextDown}
use Rattle.interval.proofs.Signs.{lt-neg}
use Rattle.interval.proofs.Rounding.{lt-units}
use Rattle.interval.proofs.Next.{size_of, grows, plus-value, minus-value, turn-value, top-plus, top-minus, after_plus, after-zero, after_minus, of_other, of_nan, of-top, next-up-is, next-down-is}

-- ---- a larger pattern stands for more, and so the other way round
grows-by : (c k : ℕ) → size_of c < size_of (c + suc k)
grows-by c zero = grows c
grows-by c (suc k) = lt_trans (grows-by c k) (lt_of_lt_of_le (grows (c + suc k)) (le_of_eq (ap (λ (n : ℕ). size_of n) (same c k))))
  where
    same : (c k : ℕ) → c + suc k + 1 ≡ c + suc (suc k)
    same c k = omega arith

grows-to : (c d : ℕ) → c < d → size_of c < size_of d
grows-to c d h = lt_of_lt_of_le (grows-by c (d - suc c)) (le_of_eq (ap (λ (n : ℕ). size_of n) (same c d h)))
  where
    same : (c d : ℕ) → c < d → c + suc (d - suc c) ≡ d
    same c d h = omega arith

pub pattern_lt : (c d : ℕ) → size_of c < size_of d → c < d
pattern_lt c d h = go (leb d c) (leb→le d c) (nleb→lt d c)
  where
    no : d ≤ c → ⊥
    no k = ⊎_elim (λ (e : d ≡ c). lt_irrefl (size_of c) (subst (λ (n : ℕ). size_of c < size_of n) e h)) (λ (l : d < c). lt_irrefl (size_of c) (lt_trans h (grows-to d c l))) (eq-or-lt_of_le k)

    go : (b : Bool) → (T b → d ≤ c) → (T (not b) → c < d) → c < d
    go true y n = absurd (no (y tt))
    go false y n = n tt

-- ---- a finite float, by its sign and its pattern without it
abbrev Patterned : Float → Type 0
Patterned y = (s : Bool) × (c : ℕ) × (c < 9218868437227405312) × HasValue y s (size_of c) (2 ^ 1074)

pub no_top : (s : Bool) (m : ℕ) (e : ℤ) (t : Bool) → inf t ≡ fin s m e → ⊥
no_top s m e t h = let z : ◌≡◌ {A = ℕ} 0 1 = cc in omega arith

finite_number : (s : Bool) (m : ℕ) (e : ℤ) → T (not (is_nan (fin s m e)))
unfolding is_nan
finite_number s m e = tt

patterned : (s : Bool) (m : ℕ) (e : ℤ) → T (fits binary64 (fin s m e)) → Patterned (fin s m e)
patterned s m e f =
    let y = fin s m e in
    let b = to_bits binary64 y in
    let back : of_bits binary64 b ≡ y = of_bits-to_bits binary64 y f in
    let w : b < 2 ^ 64 = to_bits-lt binary64 y f in
    let le : b % 9223372036854775808 ≤ 9218868437227405312 = no-nan-le b (subst (λ (z : Float). T (not (is_nan z))) (sym back) (finite_number s m e)) in
    go b back w le (ltb b 9223372036854775808) (ltb→lt b 9223372036854775808) (nltb→le b 9223372036854775808)
  where
    less : (c : ℕ) (t : Bool) (b : ℕ) → c ≤ 9218868437227405312 → of_bits binary64 b ≡ fin s m e → (c ≡ 9218868437227405312 → of_bits binary64 b ≡ inf t) → c < 9218868437227405312
    less c t b h e i = ⊎_elim (λ (k : c ≡ 9218868437227405312). absurd (no_top s m _ t (sym (i k) ∙ e))) (λ (k : c < 9218868437227405312). k) (eq-or-lt_of_le h)

    shift : (b : ℕ) → 9223372036854775808 ≤ b → 9223372036854775808 + (b - 9223372036854775808) ≡ b
    shift b h = omega arith

    go : (b : ℕ) → of_bits binary64 b ≡ fin s m e → b < 2 ^ 64 → b % 9223372036854775808 ≤ 9218868437227405312
        → (t : Bool) → (T t → b < 9223372036854775808) → (T (not t) → 9223372036854775808 ≤ b) → Patterned (fin s m e)
    go b back w le true y n =
        let l = y tt in
        let c : b < 9218868437227405312 = less b false b (omega arith) back (λ k. ap (of_bits binary64) k ∙ top-plus) in
        (false, b, c, subst (λ (z : Float). HasValue z false (size_of b) (2 ^ 1074)) back (plus-value b c))
    go b back w le false y n =
        let l = n tt in
        let d = b - 9223372036854775808 in
        let c : d < 9218868437227405312 = less d true b (omega arith) back (λ k. ap (of_bits binary64) (sym (shift b l) ∙ ap (λ (x : ℕ). 9223372036854775808 + x) k) ∙ top-minus) in
        (true, d, c, subst (λ (z : Float). HasValue z true (size_of d) (2 ^ 1074)) (ap (of_bits binary64) (shift b l) ∙ back) (minus-value d c))

-- ---- what an order says of the patterns
plus-order : (x y : Float) (a b : ℕ) → HasValue x false (size_of a) (2 ^ 1074) → HasValue y false (size_of b) (2 ^ 1074) → T (lt x y) → a < b
plus-order x y a b v w l = pattern_lt a b (lt-units x y (size_of a) (size_of b) v w l)

minus-order : (x y : Float) (a b : ℕ) → HasValue x true (size_of a) (2 ^ 1074) → HasValue y true (size_of b) (2 ^ 1074) → T (lt x y) → b < a
minus-order x y a b v w l = plus-order (neg y) (neg x) b a (turn-value y (size_of b) (2 ^ 1074) w) (turn-value x (size_of a) (2 ^ 1074) v) (subst T (lt-neg x y) l)

-- nothing that is not negative lies below what is
no-across : (x y : Float) (a b c d : ℕ) → HasValue x false a c → HasValue y true b d → T (lt x y) → ⊥
unfolding lt
no-across nan y a b c d v w l = v
no-across (inf s) y a b c d v w l = v
no-across (fin true m e) y a b c d v w l = true≢false v.0
no-across (fin false m e) nan a b c d v w l = w
no-across (fin false m e) (inf t) a b c d v w l = w
no-across (fin false m e) (fin true n k) a b c d v w l = l
no-across (fin false m e) (fin false n k) a b c d v w l = false≢true w.0

no-top-below : (y : Float) → T (lt (inf false) y) → ⊥
unfolding lt
no-top-below nan l = l
no-top-below (inf t) l = l
no-top-below (fin t n d) l = l

no-below-bottom : (x : Float) → T (lt x (inf true)) → ⊥
unfolding lt
no-below-bottom nan l = l
no-below-bottom (inf true) l = l
no-below-bottom (inf false) l = l
no-below-bottom (fin s m e) l = l

no-below-nan : (x : Float) → T (lt x nan) → ⊥
unfolding lt
no-below-nan nan l = l
no-below-nan (inf s) l = l
no-below-nan (fin s m e) l = l

clash : (c d : ℕ) → c < d → d < c + 1 → ⊥
clash c d h k = omega arith

-- ---- x is the float of the pattern b, y any float between x and the next
abbrev Between : Float → Float → Type 0
Between x z = (y : Float) → T (fits binary64 y) → T (lt x y) → T (lt y z) → ⊥

least-plus : (b : ℕ) → b < 9218868437227405312 → Between (of_bits binary64 b) (of_bits binary64 (b + 1))
least-plus b h nan f l k = no-below-nan (of_bits binary64 b) l
least-plus b h (inf true) f l k = no-below-bottom (of_bits binary64 b) l
least-plus b h (inf false) f l k = no-top-below (of_bits binary64 (b + 1)) k
least-plus b h (fin s m e) f l k = go (patterned s m e f)
  where
    next : (b : ℕ) → b < 9218868437227405312 → b + 1 ≤ 9218868437227405312
    next b h = omega arith

    go : Patterned (fin s m e) → ⊥
    go (true, c, i, v) = no-across (of_bits binary64 b) (fin s m e) (size_of b) (size_of c) (2 ^ 1074) (2 ^ 1074) (plus-value b h) v l
    go (false, c, i, v) =
        let p : b < c = plus-order (of_bits binary64 b) (fin s m e) b c (plus-value b h) v l in
        ⊎_elim (λ (t : b + 1 ≡ 9218868437227405312). absurd (omega arith)) (λ (t : b + 1 < 9218868437227405312). clash b c p (plus-order (fin s m e) (of_bits binary64 (b + 1)) c (b + 1) v (plus-value (b + 1) t) k)) (eq-or-lt_of_le (next b h))

least-minus : (c : ℕ) → c < 9218868437227405312 → Between (of_bits binary64 (9223372036854775808 + (c + 1))) (of_bits binary64 (9223372036854775808 + c))
least-minus c h nan f l k = no-below-nan (of_bits binary64 (9223372036854775808 + (c + 1))) l
least-minus c h (inf true) f l k = no-below-bottom (of_bits binary64 (9223372036854775808 + (c + 1))) l
least-minus c h (inf false) f l k = no-top-below (of_bits binary64 (9223372036854775808 + c)) k
least-minus c h (fin s m e) f l k = go (patterned s m e f)
  where
    next : (b : ℕ) → b < 9218868437227405312 → b + 1 ≤ 9218868437227405312
    next b h = omega arith

    go : Patterned (fin s m e) → ⊥
    go (false, d, i, v) = no-across (fin s m e) (of_bits binary64 (9223372036854775808 + c)) (size_of d) (size_of c) (2 ^ 1074) (2 ^ 1074) v (minus-value c h) k
    go (true, d, i, v) =
        let p : c < d = minus-order (fin s m e) (of_bits binary64 (9223372036854775808 + c)) d c v (minus-value c h) k in
        ⊎_elim (λ (t : c + 1 ≡ 9218868437227405312). absurd (omega arith)) (λ (t : c + 1 < 9218868437227405312). clash c d p (minus-order (of_bits binary64 (9223372036854775808 + (c + 1))) (fin s m e) (c + 1) d (minus-value (c + 1) t) v l)) (eq-or-lt_of_le (next c h))

-- -0: the next is the least above zero
smallest : HasValue (of_bits binary64 1) false (size_of 1) (2 ^ 1074)
smallest = plus-value 1 (omega arith)

above_zero : (y x : Float) → HasValue x true 0 (2 ^ 1074) → HasValue y false 0 (2 ^ 1074) → T (lt x y) → ⊥
unfolding lt
above_zero nan x v w l = w
above_zero (inf t) x v w l = w
above_zero (fin true n d) x v w l = true≢false w.0
above_zero (fin false n d) nan v w l = v
above_zero (fin false n d) (inf t) v w l = v
above_zero (fin false n d) (fin false m e) v w l = false≢true v.0
above_zero (fin false n d) (fin true m e) v w l =
    let p : m * up e ≡ 0 = none (2 ^ 1074) (down e) (m * up e) (pow_pos 1074) v.1 in
    let q : n * up d ≡ 0 = none (2 ^ 1074) (down d) (n * up d) (pow_pos 1074) w.1 in
    let g : 0 < m * up e * down d + n * up d * down e = ltb→lt 0 (m * up e * down d + n * up d * down e) l in
    omega (arith, ap (λ (x : ℕ). x * down d) p, ap (λ (x : ℕ). x * down e) q)
  where
    none : (L d x : ℕ) → 0 < L → x * L ≡ 0 * d → x ≡ 0
    none L d zero l i = refl
    none L d (suc x) l i = let p : 0 < suc x * L = mul-pos (zero-lt-suc x) l in absurd (omega arith)

least_zero : Between (of_bits binary64 9223372036854775808) (of_bits binary64 1)
least_zero nan f l k = no-below-nan (of_bits binary64 9223372036854775808) l
least_zero (inf true) f l k = no-below-bottom (of_bits binary64 9223372036854775808) l
least_zero (inf false) f l k = no-top-below (of_bits binary64 1) k
least_zero (fin s m e) f l k = go (patterned s m e f)
  where
    zero-value : HasValue (of_bits binary64 9223372036854775808) true (size_of 0) (2 ^ 1074)
    zero-value = minus-value 0 (omega arith)

    go : Patterned (fin s m e) → ⊥
    go (true, d, i, v) = let p : d < 0 = minus-order (of_bits binary64 9223372036854775808) (fin s m e) 0 d zero-value v l in omega arith
    go (false, zero, i, v) = above_zero (fin s m e) (of_bits binary64 9223372036854775808) zero-value v l
    go (false, suc d, i, v) = let p : suc d < 1 = plus-order (fin s m e) (of_bits binary64 1) (suc d) 1 v smallest k in omega arith

-- ---- every float but +infinity and a NaN
which : (b : ℕ) → b < 2 ^ 64 → b % 9223372036854775808 ≤ 9218868437227405312 → (b ≡ 9218868437227405312 → ⊥)
    → (b < 9218868437227405312) ⊎ ((b ≡ 9223372036854775808) ⊎ ((c : ℕ) × (b ≡ 9223372036854775808 + (c + 1)) × (c < 9218868437227405312)))
which b w f n = split (ltb b 9223372036854775808) (ltb→lt b 9223372036854775808) (nltb→le b 9223372036854775808)
  where
    split : (t : Bool) → (T t → b < 9223372036854775808) → (T (not t) → 9223372036854775808 ≤ b) → (b < 9218868437227405312) ⊎ ((b ≡ 9223372036854775808) ⊎ ((c : ℕ) × (b ≡ 9223372036854775808 + (c + 1)) × (c < 9218868437227405312)))
    split true y k = let l = y tt in inl (omega arith)
    split false y k = let l = k tt in inr (⊎_elim (λ (e : 9223372036854775808 ≡ b). inl (sym e)) (λ (g : 9223372036854775808 < b). inr (b - 9223372036854775809, omega arith, omega arith)) (eq-or-lt_of_le l))

after-least : (b : ℕ) → b < 2 ^ 64 → b % 9223372036854775808 ≤ 9218868437227405312 → (b ≡ 9218868437227405312 → ⊥) → Between (of_bits binary64 b) (after b)
after-least b w f n = go (which b w f n)
  where
    same : (c : ℕ) → 9223372036854775808 + (c + 1) - 1 ≡ 9223372036854775808 + c
    same c = omega arith

    go : (b < 9218868437227405312) ⊎ ((b ≡ 9223372036854775808) ⊎ ((c : ℕ) × (b ≡ 9223372036854775808 + (c + 1)) × (c < 9218868437227405312))) → Between (of_bits binary64 b) (after b)
    go (inl l) = subst (λ (z : Float). Between (of_bits binary64 b) z) (sym (after_plus b (omega arith))) (least-plus b l)
    go (inr (inl e)) = subst (λ (x : ℕ). Between (of_bits binary64 x) (after x)) (sym e) (subst (λ (z : Float). Between (of_bits binary64 9223372036854775808) z) (sym after-zero) least_zero)
    go (inr (inr z)) =
        let c = z.0 in
        subst (λ (x : ℕ). Between (of_bits binary64 x) (after x)) (sym z.1)
        (subst (λ (w : Float). Between (of_bits binary64 (9223372036854775808 + (c + 1))) w) (sym (after_minus (9223372036854775808 + (c + 1)) (omega arith) ∙ ap (of_bits binary64) (same c))) (least-minus c z.2))

bits-top : to_bits binary64 (inf false) ≡ 9218868437227405312
unfolding to_bits
bits-top = refl

top-of-bits : (x : Float) → T (fits binary64 x) → to_bits binary64 x ≡ 9218868437227405312 → x ≡ inf false
top-of-bits x f e = sym (of_bits-to_bits binary64 x f) ∙ ap (of_bits binary64) e ∙ top-plus

from : (x y : Float) → T (fits binary64 x) → T (fits binary64 y) → (x ≡ nan → ⊥) → (x ≡ inf false → ⊥) → T (not (is_nan x)) → T (lt x y) → T (lt y (next_up x)) → ⊥
from x y f g n i j l k =
    let b = to_bits binary64 x in
    let back : of_bits binary64 b ≡ x = of_bits-to_bits binary64 x f in
    after-least b (to_bits-lt binary64 x f) (no-nan-le b (subst (λ (w : Float). T (not (is_nan w))) (sym back) j)) (λ e. i (top-of-bits x f e)) y g
    (subst (λ (w : Float). T (lt w y)) (sym back) l) (subst (λ (w : Float). T (lt y w)) (of_other x n i) k)

inf-number : (s : Bool) → T (not (is_nan (inf s)))
unfolding is_nan
inf-number s = tt

pub not-nan-inf : (s : Bool) → inf s ≡ nan → ⊥
not-nan-inf s e = let z : ◌≡◌ {A = ℕ} 0 1 = cc in omega arith

pub not-nan-fin : (s : Bool) (m : ℕ) (e : ℤ) → fin s m e ≡ nan → ⊥
not-nan-fin s m e h = let z : ◌≡◌ {A = ℕ} 0 1 = cc in omega arith

pub two-sides : inf true ≡ inf false → ⊥
two-sides h = let z : ◌≡◌ {A = ℕ} 0 1 = cc in omega arith

no-below : (y : Float) → T (lt nan y) → ⊥
unfolding lt
no-below y l = l

pub none_between : (x y : Float) → T (fits binary64 x) → T (fits binary64 y) → T (lt x y) → T (lt y (next_up x)) → ⊥
none_between nan y f g l k = no-below y l
none_between (inf false) y f g l k = no-top-below y l
none_between (inf true) y f g l k = from (inf true) y f g (not-nan-inf true) two-sides (inf-number true) l k
none_between (fin s m e) y f g l k = from (fin s m e) y f g (not-nan-fin s m e) (λ h. no_top s m e false (sym h)) (finite_number s m e) l k

-- ---- `next_up`, as `next_up` answers it
top-bits : (x : Float) → T (fits binary64 x) → (x ≡ inf false → ⊥) → to_bits binary64 x ≡ 9218868437227405312 → ⊥
top-bits x f n e = n (sym (of_bits-to_bits binary64 x f) ∙ ap (of_bits binary64) e ∙ top-plus)

next-is : (x : Float) → T (fits binary64 x) → T (not (is_nan x)) → (x ≡ nan → ⊥) → (x ≡ inf false → ⊥) → NextUp x (next_up x)
next-is x f j n i = subst (NextUp x) (sym (of_other x n i)) (next-up-is x f j (top-bits x f i))

pub up_is : (x : Float) → T (fits binary64 x) → NextUp x (next_up x)
unfolding next_up is_nan
up_is nan f = of_nan
up_is (inf false) f = of-top
up_is (inf true) f = next-is (inf true) f tt (not-nan-inf true) two-sides
up_is (fin s m e) f = next-is (fin s m e) f tt (not-nan-fin s m e) (λ h. no_top s m e false (sym h))

pub down_is : (x : Float) → T (fits binary64 x) → NextDown x (next_down x)
unfolding next_down
down_is x f = next-down-is x (next_up (neg x)) (up_is (neg x) (neg-fits binary64 x f))
