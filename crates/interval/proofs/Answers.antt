-- What the functions answer: the two infinities as they are written in the code, tests on floats, and sums.
use mathlib.Core.Path.{◌≡◌, refl, sym, ap, ap₂, ◌∙◌, subst}
use Prim.Native.Nat.{ℕ, zero, suc, ◌+◌, ◌%◌, ◌≤◌, ◌<◌}
use native.Mathlib.Numerals.{add-one}
use native.Mathlib.Omega.{arith}
use mathlib.Core.Bool.{false≢true, Bool, true, false, not, ◌||◌, true≢false}
use lib.Dec.{T, ltb, ltb→lt, not_T}
use lib.Ieee.{Float, eq, round, nan, inf, fin, binary64, neg, div, lt, le, ne, is_nan, nan_bits, of_bits}
use lib.Ieee.Bits.{nan_bits_above}
use lib.Ieee.Compare.{nan_differs}
use Rattle.numbers.specs.Numbers.{+0, -1, one, ◌⊗◌, ◌⊘◌}
use Rattle.interval.specs.Next.{next_up, next_down}
use Rattle.interval.specs.Intervals.{is_finite, is_positive, are_zero, add_down, larger, div_up, line, point, plus, product, sum_within, add_up, sum_up}
use Rattle.interval.specs.declared.Interval.{Interval}

-- 1.0 / 0.0, -1.0 / 0.0 and 0.0
pub top-is : div binary64 (of_bits binary64 4607182418800017408) (of_bits binary64 0) ≡ inf false
unfolding div of_bits
top-is = refl

pub bottom-is : div binary64 (neg (of_bits binary64 4607182418800017408)) (of_bits binary64 0) ≡ inf true
unfolding div of_bits neg
bottom-is = refl

pub zero_is : of_bits binary64 0 ≡ +0
unfolding of_bits
zero_is = refl

pub number : (x : Float) → ne x x ≡ false → T (not (is_nan x))
unfolding is_nan
number nan d = absurd (true≢false (sym nan_differs ∙ d))
number (inf s) d = tt
number (fin s m e) d = tt

-- a pattern whose part without the sign is at most the infinity's
pub no-nan-any : (b : ℕ) → b % 9223372036854775808 ≤ 9218868437227405312 → T (not (nan_bits binary64 b))
no-nan-any b h =
    subst (λ (t : Bool). T (not t)) (sym (nan_bits_above binary64 b))
    (not_T (ltb 9218868437227405312 (b % 9223372036854775808)) (λ (u : T (ltb 9218868437227405312 (b % 9223372036854775808))). over (b % 9223372036854775808) h (ltb→lt 9218868437227405312 (b % 9223372036854775808) u)))
  where
    over : (c : ℕ) → c ≤ 9218868437227405312 → 9218868437227405312 < c → ⊥
    over c h u = omega arith

abbrev pub TOP : Float
TOP = div binary64 (of_bits binary64 4607182418800017408) (of_bits binary64 0)

abbrev pub BOTTOM : Float
BOTTOM = div binary64 (neg (of_bits binary64 4607182418800017408)) (of_bits binary64 0)

-- ---- ends
pub larger-second : (x y : Float) → lt x y ≡ true → y ≡ larger x y
unfolding larger
larger-second x y h = rw h refl

pub larger-first : (x y : Float) → lt x y ≡ false → le y x ≡ true → x ≡ larger x y
unfolding larger
larger-first x y h k = rw (h, k) refl

pub larger-none : (x y : Float) → lt x y ≡ false → le y x ≡ false → TOP ≡ larger x y
unfolding larger
larger-none x y h k = top-is ∙ rw (h, k) refl

pub finite-then : (x : Float) → lt x TOP ≡ true → lt BOTTOM x ≡ is_finite x
finite-then x h = let e : lt x (inf false) ≡ true = ap (lt x) (sym top-is) ∙ h in ap (λ (z : Float). lt z x) bottom-is ∙ rw e refl

pub finite-not : (x : Float) → lt x TOP ≡ false → false ≡ is_finite x
finite-not x h = let e : lt x (inf false) ≡ false = ap (lt x) (sym top-is) ∙ h in rw e refl

pub positive-then : (x : Float) → lt (of_bits binary64 0) x ≡ true → lt x TOP ≡ is_positive x
positive-then x h = let e : lt +0 x ≡ true = ap (λ (z : Float). lt z x) (sym zero_is) ∙ h in ap (lt x) top-is ∙ rw e refl

pub positive-not : (x : Float) → lt (of_bits binary64 0) x ≡ false → false ≡ is_positive x
positive-not x h = let e : lt +0 x ≡ false = ap (λ (z : Float). lt z x) (sym zero_is) ∙ h in rw e refl

pub div_is : (x d r : Float) (t : Bool) → t ≡ is_positive d → t ≡ true → r ≡ next_up (x ⊘ d) → r ≡ div_up x d
unfolding div_up
div_is x d r t e h k = rw (sym e ∙ h) k

pub div-none : (x d : Float) (t : Bool) → t ≡ is_positive d → t ≡ false → TOP ≡ div_up x d
unfolding div_up
div-none x d t e h = rw (sym e ∙ h) top-is

-- ---- intervals
abbrev pub ends : Float → Float → Interval
ends lo hi = record { lo = lo; hi = hi }

pub line-is : ends BOTTOM TOP ≡ line
line-is = ap₂ ends bottom-is top-is

pub point-is : (x : Float) (t : Bool) → t ≡ is_finite x → t ≡ true → ends x x ≡ point x
unfolding point
point-is x t e h = rw (sym e ∙ h) refl

pub point-none : (x : Float) (t : Bool) (r : Interval) → t ≡ is_finite x → t ≡ false → r ≡ line → r ≡ point x
unfolding point
point-none x t r e h k = rw (sym e ∙ h) k

-- ---- sums
pub sum-none : (f : ℕ → Interval) (r : Interval) → r ≡ point (of_bits binary64 0) → r ≡ sum_within 0 f
unfolding sum_within
sum-none f r e = e ∙ ap point zero_is

pub sum_more : (i : ℕ) (f : ℕ → Interval) (acc v r : Interval) → r ≡ plus acc v → v ≡ f i → acc ≡ sum_within i f → r ≡ sum_within (i + 1) f
unfolding sum_within
sum_more i f acc v r e h k = rw (add-one i) (e ∙ ap₂ plus k h)

pub sum_done : (i n : ℕ) (f : ℕ → Interval) (acc : Interval) → i ≡ n → acc ≡ sum_within i f → acc ≡ sum_within n f
sum_done i n f acc e h = h ∙ ap (λ (k : ℕ). sum_within k f) e

pub sum_same : (n : ℕ) (f g : ℕ → Interval) → ((i : ℕ) → f i ≡ g i) → sum_within n f ≡ sum_within n g
unfolding sum_within
sum_same zero f g h = refl
sum_same (suc n) f g h = ap₂ plus (sum_same n f g h) (h n)

pub up_none : (f : ℕ → Float) → of_bits binary64 0 ≡ sum_up 0 f
unfolding sum_up
up_none f = zero_is

pub up_more : (i : ℕ) (f : ℕ → Float) (acc v r : Float) → r ≡ add_up acc v → v ≡ f i → acc ≡ sum_up i f → r ≡ sum_up (i + 1) f
unfolding sum_up
up_more i f acc v r e h k = rw (add-one i) (e ∙ ap₂ add_up k h)

pub up_done : (i n : ℕ) (f : ℕ → Float) (acc : Float) → i ≡ n → acc ≡ sum_up i f → acc ≡ sum_up n f
up_done i n f acc e h = h ∙ ap (λ (k : ℕ). sum_up k f) e

-- ---- sums and products that are not rounded
pub one-is : of_bits binary64 4607182418800017408 ≡ one
unfolding of_bits round
one-is = refl

pub minus_one_is : neg (of_bits binary64 4607182418800017408) ≡ -1
unfolding of_bits neg
minus_one_is = refl

pub zero-eq : (x : Float) → eq x (of_bits binary64 0) ≡ eq x +0
zero-eq x = ap (eq x) zero_is

pub zeros-then : (x y : Float) → eq x (of_bits binary64 0) ≡ true → eq y (of_bits binary64 0) ≡ are_zero x y
zeros-then x y h = rw (sym (zero-eq x) ∙ h) (zero-eq y)

pub zeros-not : (x y : Float) → eq x (of_bits binary64 0) ≡ false → false ≡ are_zero x y
zeros-not x y h = rw (sym (zero-eq x) ∙ h) refl

pub plus-first : (a b : Interval) (t : Bool) → t ≡ are_zero a.lo a.hi → t ≡ true → b ≡ plus a b
unfolding plus
plus-first a b t e h = rw (sym e ∙ h) refl

pub plus-second : (a b : Interval) (t u : Bool) → t ≡ are_zero a.lo a.hi → t ≡ false → u ≡ are_zero b.lo b.hi → u ≡ true → a ≡ plus a b
unfolding plus
plus-second a b t u e h f k = rw (sym e ∙ h, sym f ∙ k) refl

pub plus-both : (a b r : Interval) (t u : Bool) → t ≡ are_zero a.lo a.hi → t ≡ false → u ≡ are_zero b.lo b.hi → u ≡ false
    → r ≡ ends (add_down a.lo b.lo) (add_up a.hi b.hi) → r ≡ plus a b
unfolding plus
plus-both a b r t u e h f k i = rw (sym e ∙ h, sym f ∙ k) i

module _ (x y : Float) where
  abbrev F : Bool
  F = is_finite (x ⊗ y)

  pub product-none : (t : Bool) (r : Interval) → t ≡ F → t ≡ false → r ≡ line → r ≡ product x y
  unfolding product
  product-none t r e h i = rw (sym e ∙ h) i

  pub product-zero : (t : Bool) → t ≡ F → t ≡ true → (eq x +0 || eq y +0) ≡ true → ends (of_bits binary64 0) (of_bits binary64 0) ≡ product x y
  unfolding product
  product-zero t e h z = rw (sym e ∙ h, z) (ap₂ ends zero_is zero_is)

  pub product-one : (t : Bool) → t ≡ F → t ≡ true → (eq x +0 || eq y +0) ≡ false → eq x (of_bits binary64 4607182418800017408) ≡ true → ends y y ≡ product x y
  unfolding product
  product-one t e h z i = rw (sym e ∙ h, z, sym (ap (eq x) one-is) ∙ i) refl

  pub product-minus : (t : Bool) → t ≡ F → t ≡ true → (eq x +0 || eq y +0) ≡ false → eq x (of_bits binary64 4607182418800017408) ≡ false
      → eq x (neg (of_bits binary64 4607182418800017408)) ≡ true → ends (neg y) (neg y) ≡ product x y
  unfolding product
  product-minus t e h z i j = rw (sym e ∙ h, z, sym (ap (eq x) one-is) ∙ i, sym (ap (eq x) minus_one_is) ∙ j) refl

  pub product-moved : (t : Bool) (r : Interval) → t ≡ F → t ≡ true → (eq x +0 || eq y +0) ≡ false → eq x (of_bits binary64 4607182418800017408) ≡ false
      → eq x (neg (of_bits binary64 4607182418800017408)) ≡ false → r ≡ ends (next_down (x ⊗ y)) (next_up (x ⊗ y)) → r ≡ product x y
  unfolding product
  product-moved t r e h z i j k = rw (sym e ∙ h, z, sym (ap (eq x) one-is) ∙ i, sym (ap (eq x) minus_one_is) ∙ j) k

pub zero_or : (x y : Float) → eq x (of_bits binary64 0) ≡ true → (eq x +0 || eq y +0) ≡ true
zero_or x y h = rw (sym (zero-eq x) ∙ h) refl

pub or-zero : (x y : Float) (b : Bool) → eq x (of_bits binary64 0) ≡ false → eq y (of_bits binary64 0) ≡ b → (eq x +0 || eq y +0) ≡ b
or-zero x y b h k = rw (sym (zero-eq x) ∙ h) (sym (zero-eq y) ∙ k)

pub not-true : (b : Bool) → not b ≡ true → b ≡ false
not-true true h = absurd (false≢true h)
not-true false h = refl

pub not-false : (b : Bool) → not b ≡ false → b ≡ true
not-false true h = refl
not-false false h = absurd (true≢false h)
