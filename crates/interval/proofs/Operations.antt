-- A sum, a product and a quotient of floats are the exact ones rounded; so the next float outward bounds them.
use mathlib.Core.Path.{◌≡◌, refl, sym, ap, ◌∙◌, subst}
use mathlib.Core.Logic.{◌⊎◌, inl, inr, ⊎_elim}
use Prim.Native.Nat.{ℕ, zero, suc, ◌+◌, ◌-◌, ◌*◌, ◌≤◌, ◌<◌}
use native.Mathlib.Nat.{zero-lt-suc, mul-pos, mul-le-mul_right}
use native.Mathlib.Omega.{arith}
use mathlib.Core.Bool.{Bool, true, false, not, ◌&&◌, cond}
use lib.IntN.{ℤ}
use lib.Dec.{T, ltb, ltb→lt, nltb→le, eqb-suc-zero}
use lib.Ieee.{Float, nan, inf, fin, binary64, up, down, round, neg, add, mul, lt, unlike}
use lib.Ieee.Fits.{up_pos}
use Rattle.exact.specs.Exact.{ℚ, ◌≤ℚ◌, negℚ, ◌+ℚ◌, ◌*ℚ◌, value, signed, Finite}
use Rattle.interval.specs.Held.{AtMost, AtLeast, Held}
use Rattle.interval.proofs.Ends.{NextUp, NextDown, Higher, Over, Under}
use Rattle.exact.proofs.Laws.{le_trans}
use Rattle.exact.proofs.Monotone.{sum_mono, product-mono, product-anti, turned, either-sign}
use Rattle.interval.proofs.Signs.{neg-neg, round-neg, at-least-neg, at-most-neg}
use Rattle.interval.proofs.Rounding.{Rounded, rounded-plus, rounded-minus}
use Rattle.interval.proofs.Next.{next-up-turned, higher-of-lower, lower-of-higher}
use Rattle.interval.proofs.Bounds.{at-most-through, at-least-through, lift-up, lift-down, lift-over, open_up, open-down}

-- ---- the sum
module _ (m : ℕ) (e : ℤ) (n : ℕ) (d : ℤ) where
  abbrev A : ℕ
  A = m * up e * down d

  abbrev B : ℕ
  B = n * up d * down e

  abbrev C : ℕ
  C = down e * down d

  minus_plus : Rounded (value (fin false m e) +ℚ value (fin true n d)) (cond (ltb A B) (round binary64 true (B - A) C) (round binary64 (false && ltb B A) (A - B) C))
  unfolding ◌+ℚ◌ negℚ value signed
  minus_plus = go (ltb A B) (ltb→lt A B) (nltb→le A B)
    where
      go : (b : Bool) → (T b → A < B) → (T (not b) → B ≤ A) → Rounded (value (fin false m e) +ℚ value (fin true n d)) (cond b (round binary64 true (B - A) C) (round binary64 false (A - B) C))
      go true y k = let l = y tt in rounded-minus (value (fin false m e) +ℚ value (fin true n d)) (B - A) (omega arith)
      go false y k = let l = k tt in rounded-plus (value (fin false m e) +ℚ value (fin true n d)) (A - B) (omega arith)

  plus-minus : Rounded (value (fin true m e) +ℚ value (fin false n d)) (cond (ltb A B) (round binary64 false (B - A) C) (round binary64 (true && ltb B A) (A - B) C))
  unfolding ◌+ℚ◌ negℚ value signed
  plus-minus = go (ltb A B) (ltb B A) (ltb→lt A B) (nltb→le A B) (nltb→le B A)
    where
      go : (b g : Bool) → (T b → A < B) → (T (not b) → B ≤ A) → (T (not g) → A ≤ B)
          → Rounded (value (fin true m e) +ℚ value (fin false n d)) (cond b (round binary64 false (B - A) C) (round binary64 g (A - B) C))
      go true g y k i = let l = y tt in rounded-plus (value (fin true m e) +ℚ value (fin false n d)) (B - A) (omega arith)
      go false true y k i = let l = k tt in rounded-minus (value (fin true m e) +ℚ value (fin false n d)) (A - B) (omega arith)
      go false false y k i = let l = k tt in let j = i tt in rounded-plus (value (fin true m e) +ℚ value (fin false n d)) (A - B) (omega arith)

pub rounded-add : (x y : Float) → Finite x → Finite y → Rounded (value x +ℚ value y) (add binary64 x y)
unfolding add ◌+ℚ◌ negℚ value signed
rounded-add nan y f g = absurd f
rounded-add (inf s) y f g = absurd f
rounded-add (fin s m e) nan f g = absurd g
rounded-add (fin s m e) (inf t) f g = absurd g
rounded-add (fin false m e) (fin false n d) f g = rounded-plus (value (fin false m e) +ℚ value (fin false n d)) (m * up e * down d + n * up d * down e) (omega arith)
rounded-add (fin true m e) (fin true n d) f g = rounded-minus (value (fin true m e) +ℚ value (fin true n d)) (m * up e * down d + n * up d * down e) (omega arith)
rounded-add (fin false m e) (fin true n d) f g = minus_plus m e n d
rounded-add (fin true m e) (fin false n d) f g = plus-minus m e n d

-- ---- the product
pub rounded-mul : (x y : Float) → Finite x → Finite y → Rounded (value x *ℚ value y) (mul binary64 x y)
unfolding mul ◌*ℚ◌ negℚ value signed
rounded-mul nan y f g = absurd f
rounded-mul (inf s) y f g = absurd f
rounded-mul (fin s m e) nan f g = absurd g
rounded-mul (fin s m e) (inf t) f g = absurd g
rounded-mul (fin false m e) (fin false n d) f g = rounded-plus (value (fin false m e) *ℚ value (fin false n d)) (m * up e * (n * up d)) (omega arith)
rounded-mul (fin true m e) (fin true n d) f g = rounded-plus (value (fin true m e) *ℚ value (fin true n d)) (m * up e * (n * up d)) (omega arith)
rounded-mul (fin false m e) (fin true n d) f g = rounded-minus (value (fin false m e) *ℚ value (fin true n d)) (m * up e * (n * up d)) (omega arith)
rounded-mul (fin true m e) (fin false n d) f g = rounded-minus (value (fin true m e) *ℚ value (fin false n d)) (m * up e * (n * up d)) (omega arith)

-- ---- a bound of a sum
pub add-up-bounds : (x y z : Float) → NextUp (add binary64 x y) z → (q t : ℚ) → AtMost q x → AtMost t y → AtMost (q +ℚ t) z
unfolding add
add-up-bounds nan y z n q t h k = open_up (q +ℚ t) nan z (inl refl) n
add-up-bounds (inf true) y z n q t h k = absurd h
add-up-bounds (inf false) nan z n q t h k = open_up (q +ℚ t) nan z (inl refl) n
add-up-bounds (inf false) (inf true) z n q t h k = absurd k
add-up-bounds (inf false) (inf false) z n q t h k = open_up (q +ℚ t) (inf false) z (inr refl) n
add-up-bounds (inf false) (fin s m e) z n q t h k = open_up (q +ℚ t) (inf false) z (inr refl) n
add-up-bounds (fin s m e) nan z n q t h k = open_up (q +ℚ t) nan z (inl refl) n
add-up-bounds (fin s m e) (inf true) z n q t h k = absurd k
add-up-bounds (fin s m e) (inf false) z n q t h k = open_up (q +ℚ t) (inf false) z (inr refl) n
add-up-bounds (fin s m e) (fin u l d) z n q t h k =
    let x = fin s m e in
    let y = fin u l d in
    at-most-through (q +ℚ t) (value x +ℚ value y) z (sum_mono q (value x) t (value y) h k) (lift-up (value x +ℚ value y) (add binary64 x y) z (rounded-add x y tt tt) n)

pub add-down-bounds : (x y z : Float) → NextDown (add binary64 x y) z → (q t : ℚ) → AtLeast q x → AtLeast t y → AtLeast (q +ℚ t) z
unfolding add
add-down-bounds nan y z n q t h k = open-down (q +ℚ t) nan z (inl refl) n
add-down-bounds (inf false) y z n q t h k = absurd h
add-down-bounds (inf true) nan z n q t h k = open-down (q +ℚ t) nan z (inl refl) n
add-down-bounds (inf true) (inf false) z n q t h k = absurd k
add-down-bounds (inf true) (inf true) z n q t h k = open-down (q +ℚ t) (inf true) z (inr refl) n
add-down-bounds (inf true) (fin s m e) z n q t h k = open-down (q +ℚ t) (inf true) z (inr refl) n
add-down-bounds (fin s m e) nan z n q t h k = open-down (q +ℚ t) nan z (inl refl) n
add-down-bounds (fin s m e) (inf false) z n q t h k = absurd k
add-down-bounds (fin s m e) (inf true) z n q t h k = open-down (q +ℚ t) (inf true) z (inr refl) n
add-down-bounds (fin s m e) (fin u l d) z n q t h k =
    let x = fin s m e in
    let y = fin u l d in
    at-least-through (q +ℚ t) (value x +ℚ value y) z (sum_mono (value x) q (value y) t h k) (lift-down (value x +ℚ value y) (add binary64 x y) z (rounded-add x y tt tt) n)

-- ---- the product of two intervals, by the four products of ends. An end may be infinite or a NaN.

-- v is at most the next float up of whatever is over the rounded product of x and y
abbrev Reaches : Float → Float → ℚ → Type 0
Reaches x y v = (M z : Float) → Over (mul binary64 x y) M → NextUp M z → AtMost v z

reaches-finite : (x y : Float) (v : ℚ) → Finite x → Finite y → v ≤ℚ value x *ℚ value y → Reaches x y v
reaches-finite x y v f g h M z o n = at-most-through v (value x *ℚ value y) z h (lift-over (value x *ℚ value y) (mul binary64 x y) M z (rounded-mul x y f g) o n)

above-nothing : (r z : Float) → (r ≡ nan) ⊎ (r ≡ inf false) → Higher r z → z ≡ inf false
unfolding lt
above-nothing r z e (inl h) = h
above-nothing r nan (inl e) (inr l) = absurd (subst (λ (w : Float). T (lt w nan)) e l)
above-nothing r (inf t) (inl e) (inr l) = absurd (subst (λ (w : Float). T (lt w (inf t))) e l)
above-nothing r (fin t n d) (inl e) (inr l) = absurd (subst (λ (w : Float). T (lt w (fin t n d))) e l)
above-nothing r nan (inr e) (inr l) = absurd (subst (λ (w : Float). T (lt w nan)) e l)
above-nothing r (inf t) (inr e) (inr l) = absurd (subst (λ (w : Float). T (lt w (inf t))) e l)
above-nothing r (fin t n d) (inr e) (inr l) = absurd (subst (λ (w : Float). T (lt w (fin t n d))) e l)

-- a product that is a NaN or +infinity bounds nothing
reaches_all : (x y : Float) (v : ℚ) → (mul binary64 x y ≡ nan) ⊎ (mul binary64 x y ≡ inf false) → Reaches x y v
reaches_all x y v e M z o n = subst (AtMost v) (sym (above-nothing (mul binary64 x y) z e (o z n.higher))) tt

-- ---- products with an infinity
times-inf : (s t : Bool) (m : ℕ) (e : ℤ) → unlike s t ≡ false → (mul binary64 (fin s m e) (inf t) ≡ nan) ⊎ (mul binary64 (fin s m e) (inf t) ≡ inf false)
unfolding mul
times-inf s t zero e h = inl refl
times-inf s t (suc m) e h = inr (ap (λ (b : Bool). cond b nan (inf (unlike s t))) (eqb-suc-zero m) ∙ ap inf h)

inf-times : (s t : Bool) (m : ℕ) (e : ℤ) → unlike s t ≡ false → (mul binary64 (inf s) (fin t m e) ≡ nan) ⊎ (mul binary64 (inf s) (fin t m e) ≡ inf false)
unfolding mul
inf-times s t zero e h = inl refl
inf-times s t (suc m) e h = inr (ap (λ (b : Bool). cond b nan (inf (unlike s t))) (eqb-suc-zero m) ∙ ap inf h)

zero-times : (s t : Bool) (e : ℤ) → (mul binary64 (inf s) (fin t zero e) ≡ nan)
unfolding mul
zero-times s t e = refl

times_zero : (s t : Bool) (e : ℤ) → (mul binary64 (fin t zero e) (inf s) ≡ nan)
unfolding mul
times_zero s t e = refl

nan-times : (y : Float) → mul binary64 nan y ≡ nan
unfolding mul
nan-times y = refl

times-nan : (x : Float) → mul binary64 x nan ≡ nan
unfolding mul
times-nan nan = refl
times-nan (inf s) = refl
times-nan (fin s m e) = refl

inf-inf : (s : Bool) → mul binary64 (inf s) (inf s) ≡ inf false
unfolding mul
inf-inf true = refl
inf-inf false = refl

-- a float that is above zero and not: of q with 0 ≤ q ≤ -(m + 1) ..
wrong-minus : (q : ℚ) (m : ℕ) (e : ℤ) → q.minus ≤ q.plus → q ≤ℚ value (fin true (suc m) e) → ⊥
unfolding ◌≤ℚ◌ value signed negℚ
wrong-minus q m e h k = go q.plus q.minus q.den (suc m * up e) (down e) (mul-pos (mul-pos (zero-lt-suc m) (up_pos e)) q.above) h k
  where
    go : (p n w x y : ℕ) → 0 < x * w → n ≤ p → p * y + x * w ≤ 0 * w + n * y → ⊥
    go p n w x y l h k = omega (arith, mul-le-mul_right y h)

wrong-plus : (q : ℚ) (m : ℕ) (e : ℤ) → q.plus ≤ q.minus → value (fin false (suc m) e) ≤ℚ q → ⊥
unfolding ◌≤ℚ◌ value signed
wrong-plus q m e h k = go q.plus q.minus q.den (suc m * up e) (down e) (mul-pos (mul-pos (zero-lt-suc m) (up_pos e)) q.above) h k
  where
    go : (p n w x y : ℕ) → 0 < x * w → p ≤ n → x * w + n * y ≤ p * y + 0 * w → ⊥
    go p n w x y l h k = omega (arith, mul-le-mul_right y h)

-- ---- +infinity times t ≥ 0, with t ≤ d; -infinity times t ≤ 0, with c ≤ t
top-side : (t v : ℚ) (d : Float) → t.minus ≤ t.plus → AtMost t d → Reaches (inf false) d v
top-side t v nan s h = reaches_all (inf false) nan v (inl (times-nan (inf false)))
top-side t v (inf true) s h = absurd h
top-side t v (inf false) s h = reaches_all (inf false) (inf false) v (inr (inf-inf false))
top-side t v (fin false m e) s h = reaches_all (inf false) (fin false m e) v (inf-times false false m e refl)
top-side t v (fin true zero e) s h = reaches_all (inf false) (fin true zero e) v (inl (zero-times false true e))
top-side t v (fin true (suc m) e) s h = absurd (wrong-minus t m e s h)

bottom-side : (t v : ℚ) (c : Float) → t.plus ≤ t.minus → AtLeast t c → Reaches (inf true) c v
bottom-side t v nan s h = reaches_all (inf true) nan v (inl (times-nan (inf true)))
bottom-side t v (inf false) s h = absurd h
bottom-side t v (inf true) s h = reaches_all (inf true) (inf true) v (inr (inf-inf true))
bottom-side t v (fin true m e) s h = reaches_all (inf true) (fin true m e) v (inf-times true true m e refl)
bottom-side t v (fin false zero e) s h = reaches_all (inf true) (fin false zero e) v (inl (zero-times true false e))
bottom-side t v (fin false (suc m) e) s h = absurd (wrong-plus t m e s h)

-- ---- a finite end x times t, with c ≤ t ≤ d
turned-mono : (x t d : ℚ) → t ≤ℚ d → x.minus ≤ x.plus → x *ℚ t ≤ℚ x *ℚ d
turned-mono x t d h s = le_trans (x *ℚ t) (t *ℚ x) (x *ℚ d) (turned x t) (le_trans (t *ℚ x) (d *ℚ x) (x *ℚ d) (product-mono t d x h s) (turned d x))

turned-anti : (x c t : ℚ) → c ≤ℚ t → x.plus ≤ x.minus → x *ℚ t ≤ℚ x *ℚ c
turned-anti x c t h s = le_trans (x *ℚ t) (t *ℚ x) (x *ℚ c) (turned x t) (le_trans (t *ℚ x) (c *ℚ x) (x *ℚ c) (product-anti c t x h s) (turned c x))

-- the sign of a float's number
minus-sign : (m : ℕ) (e : ℤ) → (value (fin true (suc m) e)).minus ≤ (value (fin true (suc m) e)).plus → ⊥
unfolding value signed negℚ
minus-sign m e h = let p : 0 < suc m * up e = mul-pos (zero-lt-suc m) (up_pos e) in omega arith

plus-sign : (m : ℕ) (e : ℤ) → (value (fin false (suc m) e)).plus ≤ (value (fin false (suc m) e)).minus → ⊥
unfolding value signed
plus-sign m e h = let p : 0 < suc m * up e = mul-pos (zero-lt-suc m) (up_pos e) in omega arith

plus-side : (s : Bool) (m : ℕ) (e : ℤ) (t v : ℚ) (d : Float) → v ≤ℚ value (fin s m e) *ℚ t → (value (fin s m e)).minus ≤ (value (fin s m e)).plus → AtMost t d → Reaches (fin s m e) d v
plus-side s m e t v nan h i k = reaches_all (fin s m e) nan v (inl (times-nan (fin s m e)))
plus-side s m e t v (inf true) h i k = absurd k
plus-side false m e t v (inf false) h i k = reaches_all (fin false m e) (inf false) v (times-inf false false m e refl)
plus-side true zero e t v (inf false) h i k = reaches_all (fin true zero e) (inf false) v (inl (times_zero false true e))
plus-side true (suc m) e t v (inf false) h i k = absurd (minus-sign m e i)
plus-side s m e t v (fin u n d) h i k =
    let x = value (fin s m e) in
    let y = value (fin u n d) in
    reaches-finite (fin s m e) (fin u n d) v tt tt (le_trans v (x *ℚ t) (x *ℚ y) h (turned-mono x t y k i))

minus-side : (s : Bool) (m : ℕ) (e : ℤ) (t v : ℚ) (c : Float) → v ≤ℚ value (fin s m e) *ℚ t → (value (fin s m e)).plus ≤ (value (fin s m e)).minus → AtLeast t c → Reaches (fin s m e) c v
minus-side s m e t v nan h i k = reaches_all (fin s m e) nan v (inl (times-nan (fin s m e)))
minus-side s m e t v (inf false) h i k = absurd k
minus-side true m e t v (inf true) h i k = reaches_all (fin true m e) (inf true) v (times-inf true true m e refl)
minus-side false zero e t v (inf true) h i k = reaches_all (fin false zero e) (inf true) v (inl (times_zero true false e))
minus-side false (suc m) e t v (inf true) h i k = absurd (plus-sign m e i)
minus-side s m e t v (fin u n d) h i k =
    let x = value (fin s m e) in
    let y = value (fin u n d) in
    reaches-finite (fin s m e) (fin u n d) v tt tt (le_trans v (x *ℚ t) (x *ℚ y) h (turned-anti x y t k i))

finite-side : (s : Bool) (m : ℕ) (e : ℤ) (t v : ℚ) (c d : Float) → v ≤ℚ value (fin s m e) *ℚ t → AtLeast t c → AtMost t d → Reaches (fin s m e) c v ⊎ Reaches (fin s m e) d v
finite-side s m e t v c d h k l = elim (either-sign (value (fin s m e))) [ inl i ↦ inr (plus-side s m e t v d h i l) | inr i ↦ inl (minus-side s m e t v c h i k) ]

-- ---- q ≤ b times t ≥ 0; a ≤ q times t ≤ 0
from-high : (b c d : Float) (q t : ℚ) → t.minus ≤ t.plus → AtMost q b → AtLeast t c → AtMost t d → Reaches b c (q *ℚ t) ⊎ Reaches b d (q *ℚ t)
from-high nan c d q t s h k l = inl (reaches_all nan c (q *ℚ t) (inl (nan-times c)))
from-high (inf true) c d q t s h k l = absurd h
from-high (inf false) c d q t s h k l = inr (top-side t (q *ℚ t) d s l)
from-high (fin u m e) c d q t s h k l = finite-side u m e t (q *ℚ t) c d (product-mono q (value (fin u m e)) t h s) k l

from_low : (a c d : Float) (q t : ℚ) → t.plus ≤ t.minus → AtLeast q a → AtLeast t c → AtMost t d → Reaches a c (q *ℚ t) ⊎ Reaches a d (q *ℚ t)
from_low nan c d q t s h k l = inl (reaches_all nan c (q *ℚ t) (inl (nan-times c)))
from_low (inf false) c d q t s h k l = absurd h
from_low (inf true) c d q t s h k l = inl (bottom-side t (q *ℚ t) c s k)
from_low (fin u m e) c d q t s h k l = finite-side u m e t (q *ℚ t) c d (product-anti (value (fin u m e)) q t h s) k l

-- a ≤ q ≤ b, c ≤ t ≤ d
pub mul-up-bounds : (a b c d M z : Float) → Over (mul binary64 a c) M → Over (mul binary64 a d) M → Over (mul binary64 b c) M → Over (mul binary64 b d) M → NextUp M z
    → (q t : ℚ) → Held a b q → Held c d t → AtMost (q *ℚ t) z
mul-up-bounds a b c d M z ac ad bc bd n q t h k = elim (either-sign t) [
  | inl s ↦ ⊎_elim (λ (r : Reaches b c (q *ℚ t)). r M z bc n) (λ (r : Reaches b d (q *ℚ t)). r M z bd n) (from-high b c d q t s h.high k.low k.high)
  | inr s ↦ ⊎_elim (λ (r : Reaches a c (q *ℚ t)). r M z ac n) (λ (r : Reaches a d (q *ℚ t)). r M z ad n) (from_low a c d q t s h.low k.low k.high)
]

-- ---- below, by the negation of the first factor
neg-times : (x y : Float) → mul binary64 (neg x) y ≡ neg (mul binary64 x y)
unfolding mul neg
neg-times nan y = refl
neg-times (inf s) nan = refl
neg-times (inf true) (inf true) = refl
neg-times (inf true) (inf false) = refl
neg-times (inf false) (inf true) = refl
neg-times (inf false) (inf false) = refl
neg-times (inf s) (fin t zero d) = refl
neg-times (inf true) (fin true (suc n) d) = rw (eqb-suc-zero n) refl
neg-times (inf true) (fin false (suc n) d) = rw (eqb-suc-zero n) refl
neg-times (inf false) (fin true (suc n) d) = rw (eqb-suc-zero n) refl
neg-times (inf false) (fin false (suc n) d) = rw (eqb-suc-zero n) refl
neg-times (fin s m e) nan = refl
neg-times (fin s zero e) (inf t) = refl
neg-times (fin true (suc m) e) (inf true) = rw (eqb-suc-zero m) refl
neg-times (fin true (suc m) e) (inf false) = rw (eqb-suc-zero m) refl
neg-times (fin false (suc m) e) (inf true) = rw (eqb-suc-zero m) refl
neg-times (fin false (suc m) e) (inf false) = rw (eqb-suc-zero m) refl
neg-times (fin true m e) (fin true n d) = round-neg binary64 (m * up e * (n * up d)) (down e * down d)
neg-times (fin true m e) (fin false n d) = sym (ap neg (round-neg binary64 (m * up e * (n * up d)) (down e * down d)) ∙ neg-neg (round binary64 false (m * up e * (n * up d)) (down e * down d)))
neg-times (fin false m e) (fin true n d) = sym (ap neg (round-neg binary64 (m * up e * (n * up d)) (down e * down d)) ∙ neg-neg (round binary64 false (m * up e * (n * up d)) (down e * down d)))
neg-times (fin false m e) (fin false n d) = round-neg binary64 (m * up e * (n * up d)) (down e * down d)

neg-product : (q t : ℚ) → negℚ (negℚ q *ℚ t) ≤ℚ q *ℚ t
unfolding ◌≤ℚ◌ negℚ ◌*ℚ◌
neg-product q t = omega arith

-- what is over neg x is, negated, under x
turned-over : (x M : Float) → Under x M → Over (neg x) (neg M)
turned-over x M u z h = higher-of-lower x z (u (neg z) (lower-of-higher M z h))

pub mul-down-bounds : (a b c d M z : Float) → Under (mul binary64 a c) M → Under (mul binary64 a d) M → Under (mul binary64 b c) M → Under (mul binary64 b d) M → NextDown M z
    → (q t : ℚ) → Held a b q → Held c d t → AtLeast (q *ℚ t) z
mul-down-bounds a b c d M z ac ad bc bd n q t h k =
    let over : (x y : Float) → Under (mul binary64 x y) M → Over (mul binary64 (neg x) y) (neg M) =
    λ x y u. subst (λ (w : Float). Over w (neg M)) (sym (neg-times x y)) (turned-over (mul binary64 x y) M u) in
    let up : AtMost (negℚ q *ℚ t) (neg z) =
    mul-up-bounds (neg b) (neg a) c d (neg M) (neg z) (over b c bc) (over b d bd) (over a c ac) (over a d ad) (next-up-turned M z n) (negℚ q) t
    (record { low = at-least-neg q b h.high; high = at-most-neg q a h.low }) k in
    at-least-through (q *ℚ t) (negℚ (negℚ q *ℚ t)) z (neg-product q t)
    (subst (AtLeast (negℚ (negℚ q *ℚ t))) (neg-neg z) (at-least-neg (negℚ q *ℚ t) (neg z) up))
