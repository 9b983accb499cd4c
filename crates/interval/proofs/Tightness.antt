-- How tight an interval is where the exact result is an f64: its ends are that f64's neighbours.
use mathlib.Core.Path.{◌≡◌, refl, sym, ap, ap₂, ◌∙◌, subst}
use mathlib.Core.Bool.{Bool, true, false, not, false≢true, ◌||◌, cond, ◌&&◌}
use Prim.Native.Nat.{ℕ, zero, suc, ◌+◌, ◌*◌, ◌^◌, ◌≤◌, ◌<◌}
use native.Mathlib.Nat.{le_antisymm, le_of_lt, le_of_eq, mul-pos, zero-lt-suc, mul-le-mul_left, mul-le-mul_right, le_of_mul-le-mul_right}
use native.Mathlib.Omega.{arith}
use lib.IntN.{ℤ}
use lib.Dec.{T, ltb, leb, ltb→lt, leb→le, nleb→lt}
use lib.Pow.{pow_pos}
use lib.Ieee.{Float, nan, inf, fin, binary64, fits, up, down, neg, lt, eq}
use lib.Ieee.Fits.{add-fits, mul-fits, div-fits, up_pos, down_pos}
use Rattle.numbers.specs.Numbers.{+0, ◌⊕◌, ◌⊗◌, ◌⊘◌, -1, one}
use Rattle.numbers.specs.Root.{sqrt_of}
use Rattle.numbers.specs.Rounded.{IsUnits}
use Rattle.numbers.proofs.Correct.{correctly-rounded, all-in-units}
use Rattle.numbers.proofs.Order.{lt_irrefl, lt-asym}
use Rattle.exact.specs.Exact.{ℚ, ◌≤ℚ◌, ◌≈ℚ◌, over, whole, negℚ, ◌+ℚ◌, ◌-ℚ◌, ◌*ℚ◌, value, signed, Finite}
use Rattle.exact.proofs.Laws as laws
use Rattle.exact.proofs.Values.{less-is-less, at-most-is-at-most, units-are-value, neg-is-neg, lt-left, lt-right, told, asked, and_left, and_right, equal-is-same, zero-value}
use Rattle.interval.specs.Next.{next_up, next_down}
use Rattle.interval.specs.Intervals.{is_finite, is_positive, larger, smaller, add_up, mul_up, div_up, root_up, point, plus, minus, times, product, are_zero}
use Rattle.interval.specs.Claims.{TightAbove, TightBelow, Tight}
use Rattle.interval.proofs.Signs.{neg-neg}
use Rattle.interval.proofs.Rounding.{Rounded, neg-finite}
use Rattle.interval.proofs.Containment.{nothing-added, times-nothing, times-one, times-minus, one_value, minus-value}
use Rattle.interval.proofs.Operations.{rounded-add, rounded-mul}
use Rattle.interval.proofs.Upper.{quotient, rounded-div, no-square, no-negative}
use Rattle.interval.proofs.Neighbours.{least_above, greatest-below}

-- floats of one value are above the same floats, and below the same
lt-same-left : (w r y : Float) → Finite w → Finite r → value w ≈ℚ value r → T (lt w y) → T (lt r y)
unfolding lt
lt-same-left nan r y f g e l = absurd f
lt-same-left (inf s) r y f g e l = absurd f
lt-same-left (fin s m d) nan y f g e l = absurd g
lt-same-left (fin s m d) (inf t) y f g e l = absurd g
lt-same-left (fin s m d) (fin t n k) nan f g e l = l
lt-same-left (fin s m d) (fin t n k) (inf true) f g e l = l
lt-same-left (fin s m d) (fin t n k) (inf false) f g e l = tt
lt-same-left (fin s m d) (fin t n k) (fin u p q) f g e l =
    let w = fin s m d in
    let r = fin t n k in
    let y = fin u p q in
    asked (lt r y) ((less-is-less r y tt tt).1 (lt-left (value w) (value r) (value y) e ((less-is-less w y tt tt).0 (told (lt w y) l))))

lt-same-right : (w r y : Float) → Finite w → Finite r → value w ≈ℚ value r → T (lt y w) → T (lt y r)
unfolding lt
lt-same-right nan r y f g e l = absurd f
lt-same-right (inf s) r y f g e l = absurd f
lt-same-right (fin s m d) nan y f g e l = absurd g
lt-same-right (fin s m d) (inf t) y f g e l = absurd g
lt-same-right (fin s m d) (fin t n k) nan f g e l = l
lt-same-right (fin s m d) (fin t n k) (inf true) f g e l = tt
lt-same-right (fin s m d) (fin t n k) (inf false) f g e l = l
lt-same-right (fin s m d) (fin t n k) (fin u p q) f g e l =
    let w = fin s m d in
    let r = fin t n k in
    let y = fin u p q in
    asked (lt y r) ((less-is-less y r tt tt).1 (lt-right (value y) (value w) (value r) e ((less-is-less y w tt tt).0 (told (lt y w) l))))

-- the neighbours of a float of the same value
up-near : (r w : Float) → T (fits binary64 r) → Finite w → Finite r → value w ≈ℚ value r → TightAbove w (next_up r)
up-near r w f i g e y j l m = least_above.none_between r y f j (lt-same-left w r y i g e l) m

down-near : (r w : Float) → T (fits binary64 r) → Finite w → Finite r → value w ≈ℚ value r → TightBelow w (next_down r)
down-near r w f i g e y j l m = greatest-below.none_between r y f j (lt-same-right w r y i g e m) l

-- and of the rounded number
module _ (v : ℚ) (r w : Float) (h : Rounded v r) (f : T (fits binary64 r)) (g : T (fits binary64 w)) (i : Finite w) (k : value w ≈ℚ v) where
  same-value : value w ≈ℚ value r
  same-value = laws.same-trans (value w) v (value r) k (laws.same-sym (value r) v (h.exact w g i k).1)

  pub above-near : TightAbove w (next_up r)
  above-near = up-near r w f i (h.exact w g i k).0 same-value

  pub near : Tight w (record { lo = next_down r; hi = next_up r })
  near = record { above = above-near; below = down-near r w f i (h.exact w g i k).0 same-value }

-- ---- points
point-is : (x : Float) → Finite x → point x ≡ record { lo = x; hi = x }
unfolding point lt
point-is nan f = absurd f
point-is (inf s) f = absurd f
point-is (fin s m e) f = refl

-- the float itself, for both ends
itself : (w y : Float) → Finite w → Finite y → value w ≈ℚ value y → Tight w (record { lo = y; hi = y })
itself w y f g e = record {
  above = λ z j l m. no_both y z (lt-same-left w y z f g e l) m;
  below = λ z j l m. no_both y z l (lt-same-right w y z f g e m);
}
  where
    no_both : (y z : Float) → T (lt y z) → T (lt z y) → ⊥
    no_both y z l m = subst T (lt-asym y z l) m

zero_left : (x y w : ℚ) → w ≈ℚ x +ℚ y → x ≈ℚ whole 0 → w ≈ℚ y
zero_left x y w h k = laws.same-trans w (x +ℚ y) y h (laws.same-sym y (x +ℚ y) (nothing-added x y k))

is_zero : (x : Float) → (eq x +0 && eq x +0) ≡ true → value x ≈ℚ whole 0
is_zero x h = laws.same-trans (value x) (value +0) (whole 0) (equal-is-same x +0 tt (and_left (eq x +0) (eq x +0) h)).1 zero-value

pub sum : (x y w : Float) → Finite x → Finite y → T (fits binary64 w) → Finite w → value w ≈ℚ value x +ℚ value y → Tight w (plus (point x) (point y))
unfolding plus
sum x y w f g h i k = rw (point-is x f, point-is y g) (go (are_zero x x) refl (are_zero y y) refl)
  where
    go : (a : Bool) → are_zero x x ≡ a → (b : Bool) → are_zero y y ≡ b
        → Tight w (cond a (record { lo = y; hi = y }) (cond b (record { lo = x; hi = x }) (record { lo = next_down (x ⊕ y); hi = next_up (x ⊕ y) })))
    go true e b d = itself w y i g (zero_left (value x) (value y) (value w) k (is_zero x e))
    go false e true d = itself w x i f (zero_left (value y) (value x) (value w) (laws.same-trans (value w) (value x +ℚ value y) (value y +ℚ value x) k (laws.add_comm (value x) (value y))) (is_zero y d))
    go false e false d = near (value x +ℚ value y) (x ⊕ y) w (rounded-add x y f g) (add-fits binary64 x y) h i k

pub sum-up : (x y w : Float) → Finite x → Finite y → T (fits binary64 w) → Finite w → value w ≈ℚ value x +ℚ value y → TightAbove w (add_up x y)
sum-up x y w f g h i k = above-near (value x +ℚ value y) (x ⊕ y) w (rounded-add x y f g) (add-fits binary64 x y) h i k

neg_right : (a b c d : ℚ) → a ≈ℚ b -ℚ c → d ≈ℚ negℚ c → a ≈ℚ b +ℚ d
neg_right a b c d h k =
    laws.same-trans a (b -ℚ c) (b +ℚ d) h
    (laws.same-trans (b -ℚ c) (negℚ c +ℚ b) (b +ℚ d) (laws.add_comm b (negℚ c))
    (laws.same-trans (negℚ c +ℚ b) (d +ℚ b) (b +ℚ d) (laws.add_same (negℚ c) d b (laws.same-sym d (negℚ c) k)) (laws.add_comm d b)))

pub difference : (x y w : Float) → Finite x → Finite y → T (fits binary64 w) → Finite w → value w ≈ℚ value x -ℚ value y → Tight w (minus (point x) (point y))
unfolding minus
difference x y w f g h i k =
    rw (point-is x f, point-is y g)
    (near (value x +ℚ value (neg y)) (x ⊕ neg y) w (rounded-add x (neg y) f (neg-finite y g)) (add-fits binary64 x (neg y)) h i (neg_right (value w) (value x) (value y) (value (neg y)) k (neg-is-neg y g)))

-- ---- products
finite-is : (x : Float) → Finite x → is_finite x ≡ true
unfolding lt
finite-is nan f = absurd f
finite-is (inf s) f = absurd f
finite-is (fin s m e) f = refl

pub of-product : (x y w : Float) → Finite x → Finite y → T (fits binary64 w) → Finite w → value w ≈ℚ value x *ℚ value y → Tight w (product x y)
unfolding product
of-product x y w f g h i k =
    let r = rounded-mul x y f g in
    rw (finite-is (x ⊗ y) (r.exact w h i k).0) (go (eq x +0) refl (eq y +0) refl (eq x one) refl (eq x -1) refl)
  where
    nothing' : whole 0 ≈ℚ value x *ℚ value y → value w ≈ℚ value +0
    nothing' e = laws.same-trans (value w) (value x *ℚ value y) (value +0) k (laws.same-trans (value x *ℚ value y) (whole 0) (value +0) (laws.same-sym (whole 0) (value x *ℚ value y) e) (laws.same-sym (value +0) (whole 0) zero-value))

    zero_of : (z : Float) → eq z +0 ≡ true → value z ≈ℚ whole 0
    zero_of z e = laws.same-trans (value z) (value +0) (whole 0) (equal-is-same z +0 tt e).1 zero-value

    go : (b : Bool) → eq x +0 ≡ b → (c : Bool) → eq y +0 ≡ c → (d : Bool) → eq x one ≡ d → (e : Bool) → eq x -1 ≡ e
        → Tight w (cond (b || c) (record { lo = +0; hi = +0 }) (cond d (record { lo = y; hi = y }) (cond e (record { lo = neg y; hi = neg y }) (record { lo = next_down (x ⊗ y); hi = next_up (x ⊗ y) }))))
    go true p c q d s e t = itself w +0 i tt (nothing' (times-nothing (value x) (value y) (zero_of x p)))
    go false p true q d s e t =
        itself w +0 i tt (nothing' (laws.same-trans (whole 0) (value y *ℚ value x) (value x *ℚ value y) (times-nothing (value y) (value x) (zero_of y q)) (laws.mul_comm (value y) (value x))))
    go false p false q true s e t =
        itself w y i g (laws.same-trans (value w) (value x *ℚ value y) (value y) k (laws.same-sym (value y) (value x *ℚ value y) (times-one (value x) (value y) (one_value x s))))
    go false p false q false s true t =
        itself w (neg y) i (neg-finite y g)
        (laws.same-trans (value w) (value x *ℚ value y) (value (neg y)) k
        (laws.same-sym (value (neg y)) (value x *ℚ value y) (laws.same-trans (value (neg y)) (negℚ (value y)) (value x *ℚ value y) (neg-is-neg y g) (times-minus (value x) (value y) (minus-value x t)))))
    go false p false q false s false t = near (value x *ℚ value y) (x ⊗ y) w (rounded-mul x y f g) (mul-fits binary64 x y) h i k

pub product-up : (x y w : Float) → Finite x → Finite y → T (fits binary64 w) → Finite w → value w ≈ℚ value x *ℚ value y → TightAbove w (mul_up x y)
product-up x y w f g h i k = above-near (value x *ℚ value y) (x ⊗ y) w (rounded-mul x y f g) (mul-fits binary64 x y) h i k

larger-same : (x : Float) → Finite x → larger x x ≡ x
unfolding larger
larger-same x f = rw (lt_irrefl x, (at-most-is-at-most x x f f).1 (laws.le_refl (value x))) refl

smaller-same : (x : Float) → Finite x → smaller x x ≡ x
unfolding smaller
smaller-same x f = ap neg (larger-same (neg x) (neg-finite x f)) ∙ neg-neg x

all-larger : (x : Float) → Finite x → larger (larger x x) (larger x x) ≡ x
all-larger x f = ap₂ larger (larger-same x f) (larger-same x f) ∙ larger-same x f

all-smaller : (x : Float) → Finite x → smaller (smaller x x) (smaller x x) ≡ x
all-smaller x f = ap₂ smaller (smaller-same x f) (smaller-same x f) ∙ smaller-same x f

pub of-times : (x y w : Float) → Finite x → Finite y → T (fits binary64 w) → Finite w → value w ≈ℚ value x *ℚ value y → Tight w (times (point x) (point y))
unfolding times
of-times x y w f g h i k =
    let r = rounded-mul x y f g in
    let p = (r.exact w h i k).0 in
    rw (point-is x f, point-is y g, all-larger (x ⊗ y) p, all-smaller (x ⊗ y) p) (near (value x *ℚ value y) (x ⊗ y) w r (mul-fits binary64 x y) h i k)

-- ---- quotients
times-quotient : (s : Bool) (m : ℕ) (e : ℤ) (n : ℕ) (d : ℤ) (q : ℚ) → q *ℚ value (fin false (suc n) d) ≈ℚ value (fin s m e) → q ≈ℚ quotient s m e n d
unfolding quotient ◌≈ℚ◌ ◌*ℚ◌ value signed negℚ
times-quotient false m e n d q h = omega arith
times-quotient true m e n d q h = omega arith

quotient-near : (x d w : Float) → Finite x → lt +0 d ≡ true → lt d (inf false) ≡ true → T (fits binary64 w) → Finite w → value w *ℚ value d ≈ℚ value x → TightAbove w (next_up (x ⊘ d))
unfolding lt
quotient-near nan d w f p q h i k = absurd f
quotient-near (inf s) d w f p q h i k = absurd f
quotient-near (fin s m e) nan w f p q h i k = absurd (false≢true p)
quotient-near (fin s m e) (inf true) w f p q h i k = absurd (false≢true p)
quotient-near (fin s m e) (inf false) w f p q h i k = absurd (false≢true q)
quotient-near (fin s m e) (fin true n d) w f p q h i k = absurd (false≢true p)
quotient-near (fin s m e) (fin false zero d) w f p q h i k = absurd (none (subst T (sym p) tt))
  where
    none : T (ltb (0 * down d) (0 * up d * 1)) → ⊥
    none h = let l = ltb→lt (0 * down d) (0 * up d * 1) h in omega arith
quotient-near (fin s m e) (fin false (suc n) d) w f p q h i k =
    above-near (quotient s m e n d) (fin s m e ⊘ fin false (suc n) d) w (rounded-div s m e n d) (div-fits binary64 (fin s m e) (fin false (suc n) d)) h i (times-quotient s m e n d (value w) k)

pub quotient-up : (x d w : Float) → Finite x → is_positive d ≡ true → T (fits binary64 w) → Finite w → value w *ℚ value d ≈ℚ value x → TightAbove w (div_up x d)
unfolding div_up
quotient-up x d w f p h i k =
    rw p (quotient-near x d w f (and_left (lt +0 d) (lt d (inf false)) p) (and_right (lt +0 d) (lt d (inf false)) p) h i k)

-- ---- roots

-- w = W / L and r = R / L, both not below zero, x = X / L, and w w = x: then r is w, since no other is as near
units-root : (W R X L : ℕ) → W * W ≡ X * L → (W < R → (W + R) * (W + R) < 4 * (X * L)) → (R < W → 4 * (X * L) < (W + R) * (W + R)) → R ≡ W
units-root W R X L e below above = le_antisymm (at_least (leb R W) (leb→le R W) (nleb→lt R W)) (at-least' (leb W R) (leb→le W R) (nleb→lt W R))
  where
    at_least : (t : Bool) → (T t → R ≤ W) → (T (not t) → W < R) → R ≤ W
    at_least true y n = y tt
    at_least false y n =
        let l : W < R = n tt in
        let a : (W + R) * (W + R) < 4 * (X * L) = below l in
        let b : W * W ≤ W * R = mul-le-mul_left W (le_of_lt l) in
        let d : W * R ≤ R * R = mul-le-mul_right R (le_of_lt l) in
        absurd (omega arith)

    at-least' : (t : Bool) → (T t → W ≤ R) → (T (not t) → R < W) → W ≤ R
    at-least' true y n = y tt
    at-least' false y n =
        let l : R < W = n tt in
        let a : 4 * (X * L) < (W + R) * (W + R) = above l in
        let b : R * W ≤ W * W = mul-le-mul_right W (le_of_lt l) in
        let d : R * R ≤ R * W = mul-le-mul_left R (le_of_lt l) in
        absurd (omega arith)

-- from fractions to units: k / c is W / L, x / d is X / L, and (k / c)² is x / d
square-units : (k c W x d X L : ℕ) → 0 < c → 0 < d → k * L ≡ W * c → x * L ≡ X * d → k * k * d ≡ x * (c * c) → W * W ≡ X * L
square-units k c W x d X L C D i j h =
    let a : k * L * (k * L) * d ≡ W * c * (W * c) * d = ap (λ (z : ℕ). z * z * d) i in
    let b : k * k * d * (L * L) ≡ x * (c * c) * (L * L) = ap (λ (z : ℕ). z * (L * L)) h in
    let e : x * L * (L * (c * c)) ≡ X * d * (L * (c * c)) = ap (λ (z : ℕ). z * (L * (c * c))) j in
    let g : W * W * (c * c * d) ≡ X * L * (c * c * d) = omega arith in
    let P : 0 < c * c * d = mul-pos (mul-pos C C) D in
    le_antisymm (le_of_mul-le-mul_right (le_of_eq g) P) (le_of_mul-le-mul_right (le_of_eq (sym g)) P)

squares-plus : (k : ℕ) (d : ℤ) (m : ℕ) (e : ℤ) → value (fin false k d) *ℚ value (fin false k d) ≈ℚ value (fin false (suc m) e) → k * up d * (k * up d) * down e ≡ suc m * up e * (down d * down d)
unfolding ◌≈ℚ◌ ◌*ℚ◌ value signed
squares-plus k d m e h = omega arith

no_minus : (k : ℕ) (d : ℤ) (m : ℕ) (e : ℤ) → whole 0 ≤ℚ value (fin true k d) → value (fin true k d) *ℚ value (fin true k d) ≈ℚ value (fin false (suc m) e) → ⊥
unfolding ◌≤ℚ◌ ◌≈ℚ◌ ◌*ℚ◌ value signed negℚ
no_minus k d m e h i =
    let z : k * up d ≡ 0 = omega arith in
    let p : 0 < suc m * up e * (down d * down d) = mul-pos (mul-pos (zero-lt-suc m) (up_pos e)) (mul-pos (down_pos d) (down_pos d)) in
    let s : k * up d * (k * up d) ≡ 0 * (k * up d) = ap (λ (a : ℕ). a * (k * up d)) z in
    let t : k * up d * (k * up d) * down e ≡ 0 * (k * up d) * down e = ap (λ (a : ℕ). a * down e) s in
    omega arith

units-same : (x y : Float) (n : ℕ) → IsUnits x n → IsUnits y n → value x ≈ℚ value y
units-same x y n h k =
    laws.same-trans (value x) (over n (2 ^ 1074) (pow_pos 1074)) (value y) (units-are-value x n h) (laws.same-sym (value y) (over n (2 ^ 1074) (pow_pos 1074)) (units-are-value y n k))

has-units : (r : Float) (n : ℕ) → IsUnits r n → Finite r
has-units nan n h = h
has-units (inf s) n h = h
has-units (fin s m e) n h = tt

root-near : (m : ℕ) (e : ℤ) → T (fits binary64 (fin false (suc m) e)) → (w : Float) → T (fits binary64 w) → Finite w → whole 0 ≤ℚ value w
    → value w *ℚ value w ≈ℚ value (fin false (suc m) e) → TightAbove w (next_up (sqrt_of (fin false (suc m) e)))
root-near m e f nan h i p k = absurd i
root-near m e f (inf s) h i p k = absurd i
root-near m e f (fin true n d) h i p k = absurd (no_minus n d m e p k)
root-near m e f (fin false n d) h i p k =
    let w = fin false n d in
    let r = sqrt_of (fin false (suc m) e) in
    let near = correctly-rounded m e f in
    let u = all-in-units n d h in
    let s : u.0 * u.0 ≡ near.X * 2 ^ 1074 = square-units (n * up d) (down d) u.0 (suc m * up e) (down e) near.X (2 ^ 1074) (down_pos d) (down_pos e) u.1.1 near.x_is.1 (squares-plus n d m e k) in
    let same : near.R ≡ u.0 = units-root u.0 near.R near.X (2 ^ 1074) s (near.beats_below w u.0 h u.1) (near.beats_above w u.0 h u.1) in
    up-near r w near.is_f64 tt (has-units r near.R near.r_is) (units-same w r near.R (subst (λ (j : ℕ). IsUnits w j) (sym same) u.1) near.r_is)

zero-least : (s : Bool) (e : ℤ) (q : ℚ) → whole 0 ≤ℚ q → value (fin s 0 e) ≤ℚ q
unfolding ◌≤ℚ◌ value signed negℚ
zero-least true e q h = let k : q.minus ≤ q.plus = omega arith in omega (arith, mul-le-mul_right (down e) k)
zero-least false e q h = let k : q.minus ≤ q.plus = omega arith in omega (arith, mul-le-mul_right (down e) k)

pub of-root : (x w : Float) → T (fits binary64 x) → Finite x → T (fits binary64 w) → Finite w → whole 0 ≤ℚ value w → value w *ℚ value w ≈ℚ value x → TightAbove w (root_up x)
unfolding sqrt_of
of-root nan w f g h i p k = absurd g
of-root (inf s) w f g h i p k = absurd g
of-root (fin s zero e) w f g h i p k =
    up-near (fin s zero e) w f i tt (laws.le_same (value w) (value (fin s zero e)) (no-square (value w) s e (laws.same-le (value w *ℚ value w) (value (fin s zero e)) k)) (zero-least s e (value w) p))
of-root (fin true (suc m) e) w f g h i p k =
    absurd (no-negative (value w *ℚ value w) m e (laws.mul-nonneg (value w) (value w) p p) (laws.same-le (value w *ℚ value w) (value (fin true (suc m) e)) k))
of-root (fin false (suc m) e) w f g h i p k = root-near m e f w h i p k
