-- What the operations on intervals and on upper ends hold: each by its law of rounding.
use mathlib.Core.Path.{◌≡◌, refl, ap, sym, ◌∙◌}
use mathlib.Core.Bool.{Bool, true, false, cond, ◌&&◌, false≢true, ◌||◌}
use Prim.Native.Nat.{ℕ, zero, suc}
use native.Mathlib.Omega.{arith}
use lib.IntN.{pos}
use lib.Dec.{T, eqb}
use lib.Ieee.{Float, nan, inf, fin, binary64, fits, mul, unlike, neg, lt, le, eq, round}
use lib.Ieee.Fits.{add-fits, mul-fits, div-fits, neg-fits, inf-fits, nan-fits, cond-fits}
use Rattle.numbers.specs.Numbers.{+0, -1, one, ◌⊕◌, ◌⊗◌, ◌⊘◌}
use Rattle.numbers.specs.Root.{sqrt_of}
use Rattle.numbers.proofs.Correct.{correctly-rounded}
use Rattle.exact.specs.Exact.{ℚ, ◌≤ℚ◌, whole, negℚ, absℚ, ◌+ℚ◌, ◌-ℚ◌, ◌*ℚ◌, Σℚ, value, signed, Finite, ◌≈ℚ◌}
use Rattle.exact.proofs.Laws as laws
use Rattle.exact.proofs.Laws.{le_refl}
use Rattle.exact.proofs.Values.{and_left, and_right, equal-is-same, zero-value, neg-is-neg}
use Rattle.interval.specs.Next.{next_up, next_down}
use Rattle.interval.specs.Held.{AtMost, AtLeast, Held, Holds}
use Rattle.interval.specs.Intervals.{larger, smaller, div_up, root_up, line, point, plus, minus, times, magnitude, product, sum_within, add_up, mul_up, sum_up, are_zero, add_down, is_finite}
use Rattle.interval.specs.Claims.{DivUp, RootUp}
use Rattle.interval.specs.declared.Interval.{Interval}
use Rattle.interval.proofs.Ends.{Larger, Smaller}
use Rattle.interval.proofs.Signs.{at-least-neg, at-most-neg}
use Rattle.interval.proofs.Rounding.{neg-finite}
use Rattle.interval.proofs.Bounds as bounds
use Rattle.interval.proofs.Bounds.{at-most-through, at-least-through}
use Rattle.interval.proofs.Operations.{rounded-mul, add-up-bounds, add-down-bounds, mul-up-bounds, mul-down-bounds}
use Rattle.interval.proofs.Upper.{mul-up-at-most, div-up-is, div-up-none, root-up-is}
use Rattle.interval.proofs.Least.{up_is, down_is}

-- ---- ends
pub larger-is : (x y : Float) → Larger x y (larger x y)
unfolding larger
larger-is x y = go (lt x y) refl (le y x) refl
  where
    go : (a : Bool) → lt x y ≡ a → (b : Bool) → le y x ≡ b → Larger x y (cond a y (cond b x (inf false)))
    go true h b k = bounds.larger-second x y h
    go false h true k = bounds.larger-first x y h k
    go false h false k = bounds.larger-none x y

larger-fits : (x y : Float) → T (fits binary64 x) → T (fits binary64 y) → T (fits binary64 (larger x y))
unfolding larger
larger-fits x y f g = cond-fits binary64 (lt x y) y (cond (le y x) x (inf false)) g (cond-fits binary64 (le y x) x (inf false) f (inf-fits binary64 false))

smaller-is : (x y : Float) → Smaller x y (smaller x y)
unfolding smaller
smaller-is x y = bounds.smaller-is x y (larger (neg x) (neg y)) (larger-is (neg x) (neg y))

smaller-fits : (x y : Float) → T (fits binary64 x) → T (fits binary64 y) → T (fits binary64 (smaller x y))
unfolding smaller
smaller-fits x y f g = neg-fits binary64 (larger (neg x) (neg y)) (larger-fits (neg x) (neg y) (neg-fits binary64 x f) (neg-fits binary64 y g))

pub adds : (x y : Float) (q t : ℚ) → AtMost q x → AtMost t y → AtMost (q +ℚ t) (add_up x y)
adds x y = add-up-bounds x y (add_up x y) (up_is (x ⊕ y) (add-fits binary64 x y))

pub multiplies : (x y : Float) (q t : ℚ) → whole 0 ≤ℚ q → whole 0 ≤ℚ t → AtMost q x → AtMost t y → AtMost (q *ℚ t) (mul_up x y)
multiplies x y = mul-up-at-most x y (mul_up x y) (up_is (x ⊗ y) (mul-fits binary64 x y))

pub divides : (x d : Float) → DivUp x d (div_up x d)
unfolding div_up
divides x d = go (lt +0 d) refl (lt d (inf false)) refl
  where
    go : (a : Bool) → lt +0 d ≡ a → (b : Bool) → lt d (inf false) ≡ b → DivUp x d (cond (a && b) (next_up (x ⊘ d)) (inf false))
    go true h true k = div-up-is x d (next_up (x ⊘ d)) h k (up_is (x ⊘ d) (div-fits binary64 x d))
    go true h false k = div-up-none x d
    go false h b k = div-up-none x d

-- ---- intervals
line-holds : (q : ℚ) → Holds line q
line-holds q = record { low = tt; high = tt }

pub finite : (x : Float) → lt x (inf false) ≡ true → lt (inf true) x ≡ true → Finite x
unfolding lt
finite nan h k = absurd (false≢true h)
finite (inf true) h k = absurd (false≢true k)
finite (inf false) h k = absurd (false≢true h)
finite (fin s m e) h k = tt

point-held : (x : Float) → Finite x → Held x x (value x)
point-held nan f = absurd f
point-held (inf s) f = absurd f
point-held (fin s m e) f = record { low = le_refl (value (fin s m e)); high = le_refl (value (fin s m e)) }

nan-or-inf : (b : Bool) (s : Bool) → Finite (cond b nan (inf s)) → ⊥
nan-or-inf true s f = f
nan-or-inf false s f = f

finite-factors : (x y : Float) → Finite (mul binary64 x y) → Finite x × Finite y
unfolding mul
finite-factors nan y f = absurd f
finite-factors (inf s) nan f = absurd f
finite-factors (inf s) (inf t) f = absurd f
finite-factors (inf s) (fin t n d) f = absurd (nan-or-inf (eqb n 0) (unlike s t) f)
finite-factors (fin s m e) nan f = absurd f
finite-factors (fin s m e) (inf t) f = absurd (nan-or-inf (eqb m 0) (unlike s t) f)
finite-factors (fin s m e) (fin t n d) f = (tt, tt)

pub point-holds : (x : Float) → Holds (point x) (value x)
unfolding point
point-holds x = go (lt x (inf false)) refl (lt (inf true) x) refl
  where
    go : (a : Bool) → lt x (inf false) ≡ a → (b : Bool) → lt (inf true) x ≡ b → Holds (cond (a && b) (record { lo = x; hi = x }) line) (value x)
    go true h true k = point-held x (finite x h k)
    go true h false k = line-holds (value x)
    go false h b k = line-holds (value x)

-- ---- sums and products that are not rounded
pub finite-at-most : (q : ℚ) (x : Float) → Finite x → AtMost q x → q ≤ℚ value x
finite-at-most q nan f h = absurd f
finite-at-most q (inf s) f h = absurd f
finite-at-most q (fin s m e) f h = h

finite-at-least : (q : ℚ) (x : Float) → Finite x → AtLeast q x → value x ≤ℚ q
finite-at-least q nan f h = absurd f
finite-at-least q (inf s) f h = absurd f
finite-at-least q (fin s m e) f h = h

zero-times-is : (t : ℚ) → whole 0 ≈ℚ whole 0 *ℚ t
unfolding ◌≈ℚ◌ ◌*ℚ◌
zero-times-is t = omega arith

minus-times-is : (t : ℚ) → negℚ t ≈ℚ negℚ (whole 1) *ℚ t
unfolding ◌≈ℚ◌ ◌*ℚ◌ negℚ
minus-times-is t = omega arith

one-is-1 : one ≡ fin false 1 (pos 0)
unfolding round
one-is-1 = refl

value-1 : value (fin false 1 (pos 0)) ≈ℚ whole 1
unfolding ◌≈ℚ◌ value signed
value-1 = refl

pub one_value : (x : Float) → eq x one ≡ true → value x ≈ℚ whole 1
one_value x h = laws.same-trans (value x) (value (fin false 1 (pos 0))) (whole 1) (equal-is-same x (fin false 1 (pos 0)) tt (ap (eq x) (sym one-is-1) ∙ h)).1 value-1

minus-1 : value -1 ≈ℚ negℚ (whole 1)
unfolding ◌≈ℚ◌ value signed negℚ
minus-1 = refl

pub minus-value : (x : Float) → eq x -1 ≡ true → value x ≈ℚ negℚ (whole 1)
minus-value x h = laws.same-trans (value x) (value -1) (negℚ (whole 1)) (equal-is-same x -1 tt h).1 minus-1

factors : (x y : Float) → is_finite (x ⊗ y) ≡ true → Finite x × Finite y
factors x y h = finite-factors x y (finite (x ⊗ y) (and_left (lt (x ⊗ y) (inf false)) (lt (inf true) (x ⊗ y)) h) (and_right (lt (x ⊗ y) (inf false)) (lt (inf true) (x ⊗ y)) h))

held_same : (lo hi : Float) (q r : ℚ) → q ≈ℚ r → Held lo hi q → Held lo hi r
held_same lo hi q r e h = record {
  low = at-least-through r q lo (laws.same-le q r e) h.low;
  high = at-most-through r q hi (laws.same-le r q (laws.same-sym q r e)) h.high;
}

-- between two zeros there is only zero
only_zero : (lo hi : Float) (q : ℚ) → are_zero lo hi ≡ true → Held lo hi q → q ≈ℚ whole 0
only_zero lo hi q z h =
    let a = equal-is-same lo +0 tt (and_left (eq lo +0) (eq hi +0) z) in
    let b = equal-is-same hi +0 tt (and_right (eq lo +0) (eq hi +0) z) in
    laws.le_same q (whole 0)
    (laws.le_trans q (value hi) (whole 0) (finite-at-most q hi b.0 h.high) (laws.same-le (value hi) (whole 0) (laws.same-trans (value hi) (value +0) (whole 0) b.1 zero-value)))
    (laws.le_trans (whole 0) (value lo) q (laws.same-le (whole 0) (value lo) (laws.same-sym (value lo) (whole 0) (laws.same-trans (value lo) (value +0) (whole 0) a.1 zero-value))) (finite-at-least q lo a.0 h.low))

pub nothing-added : (q t : ℚ) → q ≈ℚ whole 0 → t ≈ℚ q +ℚ t
nothing-added q t h =
    laws.same-trans t (t +ℚ whole 0) (q +ℚ t) (laws.same-sym (t +ℚ whole 0) t (laws.add-zero t))
    (laws.same-trans (t +ℚ whole 0) (whole 0 +ℚ t) (q +ℚ t) (laws.add_comm t (whole 0)) (laws.add_same (whole 0) q t (laws.same-sym q (whole 0) h)))

pub plus-holds : (a b : Interval) (q t : ℚ) → Holds a q → Holds b t → Holds (plus a b) (q +ℚ t)
unfolding plus
plus-holds a b q t h k = go (are_zero a.lo a.hi) refl (are_zero b.lo b.hi) refl
  where
    go : (u : Bool) → are_zero a.lo a.hi ≡ u → (v : Bool) → are_zero b.lo b.hi ≡ v
        → Holds (cond u b (cond v a (record { lo = add_down a.lo b.lo; hi = add_up a.hi b.hi }))) (q +ℚ t)
    go true e v f = held_same b.lo b.hi t (q +ℚ t) (nothing-added q t (only_zero a.lo a.hi q e h)) k
    go false e true f = held_same a.lo a.hi q (q +ℚ t)
        (laws.same-trans q (t +ℚ q) (q +ℚ t) (nothing-added t q (only_zero b.lo b.hi t f k)) (laws.add_comm t q)) h
    go false e false f = record {
      low = add-down-bounds a.lo b.lo (next_down (a.lo ⊕ b.lo)) (down_is (a.lo ⊕ b.lo) (add-fits binary64 a.lo b.lo)) q t h.low k.low;
      high = adds a.hi b.hi q t h.high k.high;
    }

pub minus-holds : (a b : Interval) (q t : ℚ) → Holds a q → Holds b t → Holds (minus a b) (q -ℚ t)
unfolding minus
minus-holds a b q t h k = record {
  low = add-down-bounds a.lo (neg b.hi) (next_down (a.lo ⊕ neg b.hi)) (down_is (a.lo ⊕ neg b.hi) (add-fits binary64 a.lo (neg b.hi))) q (negℚ t) h.low (at-least-neg t b.hi k.high);
  high = adds a.hi (neg b.lo) q (negℚ t) h.high (at-most-neg t b.lo k.low);
}

pub times-holds : (a b : Interval) (q t : ℚ) → Holds a q → Holds b t → Holds (times a b) (q *ℚ t)
unfolding times
times-holds a b q t h k =
    let A = a.lo ⊗ b.lo in
    let B = a.lo ⊗ b.hi in
    let C = a.hi ⊗ b.lo in
    let D = a.hi ⊗ b.hi in
    let f_a = mul-fits binary64 a.lo b.lo in
    let f_b = mul-fits binary64 a.lo b.hi in
    let f_c = mul-fits binary64 a.hi b.lo in
    let f_d = mul-fits binary64 a.hi b.hi in
    let s1 = smaller-is A B in
    let s2 = smaller-is C D in
    let s3 = smaller-is (smaller A B) (smaller C D) in
    let l1 = larger-is A B in
    let l2 = larger-is C D in
    let l3 = larger-is (larger A B) (larger C D) in
    record {
      low = mul-down-bounds a.lo a.hi b.lo b.hi (smaller (smaller A B) (smaller C D)) (next_down (smaller (smaller A B) (smaller C D)))
          (λ z i. s1.under_left z (s3.under_left z i)) (λ z i. s1.under-right z (s3.under_left z i)) (λ z i. s2.under_left z (s3.under-right z i)) (λ z i. s2.under-right z (s3.under-right z i))
          (down_is (smaller (smaller A B) (smaller C D)) (smaller-fits (smaller A B) (smaller C D) (smaller-fits A B f_a f_b) (smaller-fits C D f_c f_d))) q t h k;
      high = mul-up-bounds a.lo a.hi b.lo b.hi (larger (larger A B) (larger C D)) (next_up (larger (larger A B) (larger C D)))
          (λ z i. l1.over-left z (l3.over-left z i)) (λ z i. l1.over-right z (l3.over-left z i)) (λ z i. l2.over-left z (l3.over-right z i)) (λ z i. l2.over-right z (l3.over-right z i))
          (up_is (larger (larger A B) (larger C D)) (larger-fits (larger A B) (larger C D) (larger-fits A B f_a f_b) (larger-fits C D f_c f_d))) q t h k;
    }

pub times-nothing : (q t : ℚ) → q ≈ℚ whole 0 → whole 0 ≈ℚ q *ℚ t
times-nothing q t h = laws.same-trans (whole 0) (whole 0 *ℚ t) (q *ℚ t) (none t) (laws.mul-same (whole 0) q t (laws.same-sym q (whole 0) h))
  where
    none : (t : ℚ) → whole 0 ≈ℚ whole 0 *ℚ t
    none t = zero-times-is t

pub times-one : (q t : ℚ) → q ≈ℚ whole 1 → t ≈ℚ q *ℚ t
times-one q t h =
    laws.same-trans t (t *ℚ whole 1) (q *ℚ t) (laws.same-sym (t *ℚ whole 1) t (laws.mul-one t))
    (laws.same-trans (t *ℚ whole 1) (whole 1 *ℚ t) (q *ℚ t) (laws.mul_comm t (whole 1)) (laws.mul-same (whole 1) q t (laws.same-sym q (whole 1) h)))

pub times-minus : (q t : ℚ) → q ≈ℚ negℚ (whole 1) → negℚ t ≈ℚ q *ℚ t
times-minus q t h = laws.same-trans (negℚ t) (negℚ (whole 1) *ℚ t) (q *ℚ t) (minus-times-is t) (laws.mul-same (negℚ (whole 1)) q t (laws.same-sym q (negℚ (whole 1)) h))

zero-holds : (q : ℚ) → whole 0 ≈ℚ q → Held +0 +0 q
zero-holds q h = held_same +0 +0 (value +0) q (laws.same-trans (value +0) (whole 0) q zero-value h) (point-held +0 tt)

pub product-holds : (x y : Float) → Holds (product x y) (value x *ℚ value y)
unfolding product
product-holds x y = go (is_finite (x ⊗ y)) refl (eq x +0) refl (eq y +0) refl (eq x one) refl (eq x -1) refl
  where
    Q : ℚ
    Q = value x *ℚ value y

    moved : is_finite (x ⊗ y) ≡ true → Held (next_down (x ⊗ y)) (next_up (x ⊗ y)) (value x *ℚ value y)
    moved h =
        let f = factors x y h in
        let r = rounded-mul x y f.0 f.1 in
        record {
          low = bounds.lift-down (value x *ℚ value y) (x ⊗ y) (next_down (x ⊗ y)) r (down_is (x ⊗ y) (mul-fits binary64 x y));
          high = bounds.lift-up (value x *ℚ value y) (x ⊗ y) (next_up (x ⊗ y)) r (up_is (x ⊗ y) (mul-fits binary64 x y));
        }

    go : (a : Bool) → is_finite (x ⊗ y) ≡ a → (b : Bool) → eq x +0 ≡ b → (c : Bool) → eq y +0 ≡ c → (d : Bool) → eq x one ≡ d → (e : Bool) → eq x -1 ≡ e
        → Holds (cond a (cond (b || c) (record { lo = +0; hi = +0 }) (cond d (record { lo = y; hi = y }) (cond e (record { lo = neg y; hi = neg y }) (record { lo = next_down (x ⊗ y); hi = next_up (x ⊗ y) })))) line) (value x *ℚ value y)
    go false h b i c j d k e l = line-holds (value x *ℚ value y)
    go true h true i c j d k e l = zero-holds (value x *ℚ value y) (times-nothing (value x) (value y) (laws.same-trans (value x) (value +0) (whole 0) (equal-is-same x +0 tt i).1 zero-value))
    go true h false i true j d k e l =
        zero-holds (value x *ℚ value y)
        (laws.same-trans (whole 0) (value y *ℚ value x) (value x *ℚ value y) (times-nothing (value y) (value x) (laws.same-trans (value y) (value +0) (whole 0) (equal-is-same y +0 tt j).1 zero-value)) (laws.mul_comm (value y) (value x)))
    go true h false i false j true k e l =
        held_same y y (value y) (value x *ℚ value y) (times-one (value x) (value y) (one_value x k)) (point-held y (factors x y h).1)
    go true h false i false j false k true l =
        held_same (neg y) (neg y) (value (neg y)) (value x *ℚ value y)
        (laws.same-trans (value (neg y)) (negℚ (value y)) (value x *ℚ value y) (neg-is-neg y (factors x y h).1) (times-minus (value x) (value y) (minus-value x l)))
        (point-held (neg y) (neg-finite y (factors x y h).1))
    go true h false i false j false k false l = moved h

pub magnitude-bounds : (a : Interval) (q : ℚ) → Holds a q → AtMost (absℚ q) (magnitude a)
magnitude-bounds a q h =
    let l = larger-is (neg a.lo) a.hi in
    bounds.size-at-most q (magnitude a) (l.bounds-right q h.high) (l.bounds-left (negℚ q) (at-most-neg q a.lo h.low))

-- ---- sums
zero_held : (lo hi : Float) → Held lo hi (value +0) → Held lo hi (whole 0)
unfolding value signed ◌≤ℚ◌
zero_held lo hi h = record { low = at-least-through (whole 0) (value +0) lo (omega arith) h.low; high = at-most-through (whole 0) (value +0) hi (omega arith) h.high }

pub nothing : AtMost (whole 0) +0
unfolding value signed ◌≤ℚ◌
nothing = omega arith

pub sum-holds : (n : ℕ) (f : ℕ → Interval) (g : ℕ → ℚ) → ((i : ℕ) → Holds (f i) (g i)) → Holds (sum_within n f) (Σℚ n g)
unfolding sum_within Σℚ
sum-holds zero f g h = zero_held (point +0).lo (point +0).hi (point-holds +0)
sum-holds (suc n) f g h = plus-holds (sum_within n f) (f n) (Σℚ n g) (g n) (sum-holds n f g h) (h n)

pub up-bounds : (n : ℕ) (f : ℕ → Float) (g : ℕ → ℚ) → ((i : ℕ) → AtMost (g i) (f i)) → AtMost (Σℚ n g) (sum_up n f)
unfolding sum_up Σℚ
up-bounds zero f g h = nothing
up-bounds (suc n) f g h = adds (sum_up n f) (f n) (Σℚ n g) (g n) (up-bounds n f g h) (h n)

-- ---- roots
pub root-fits : (r : Float) → T (fits binary64 r) → T (fits binary64 (sqrt_of r))
unfolding sqrt_of
root-fits nan f = nan-fits binary64
root-fits (inf false) f = inf-fits binary64 false
root-fits (inf true) f = nan-fits binary64
root-fits (fin s zero e) f = f
root-fits (fin true (suc m) e) f = nan-fits binary64
root-fits (fin false (suc m) e) f = (correctly-rounded m e f).is_f64

pub roots : (x : Float) → T (fits binary64 x) → RootUp x (root_up x)
roots x f = root-up-is x (root_up x) f (up_is (sqrt_of x) (root-fits x f))
