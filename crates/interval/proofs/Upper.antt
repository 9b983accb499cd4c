-- Upper bounds of products, quotients and roots of numbers that are not below zero.
use mathlib.Core.Path.{◌≡◌, refl, sym, ap, ◌∙◌, subst}
use mathlib.Core.Logic.{◌⊎◌, inl, inr, ⊎_elim}
use Prim.Native.Nat.{ℕ, zero, suc, ◌+◌, ◌-◌, ◌*◌, ◌^◌, ◌≤◌, ◌<◌}
use native.Mathlib.Nat.{mul-pos, le_of_lt, zero-lt-suc, mul-le-mul, mul-le-mul_right, mul-lt-mul_of_pos_right, le_of_mul-le-mul_right}
use native.Mathlib.Omega.{arith}
use mathlib.Core.Bool.{Bool, true, false, not, cond, true≢false}
use lib.IntN.{ℤ, pos}
use lib.Dec.{T, ltb, leb, eqb, ltb→lt, leb→le, nleb→lt, eqb-suc-zero}
use lib.Pow.{pow_pos}
use lib.Ieee.{Float, nan, inf, fin, binary64, up, down, round, fits, mul, div, lt, unlike}
use lib.Ieee.Fits.{down_pos, up_pos}
use Rattle.numbers.specs.Root.{sqrt_of}
use Rattle.numbers.specs.Rounded.{IsUnits, NearestRoot}
use Rattle.numbers.proofs.Correct.{correctly-rounded, all-in-units}
use Rattle.exact.specs.Exact.{ℚ, ◌≤ℚ◌, ◌<ℚ◌, ◌≈ℚ◌, whole, negℚ, ◌*ℚ◌, ◌/ℚ◌, inverse, leℚ, maxℚ, absℚ, value, signed, Finite}
use Rattle.exact.proofs.Laws as laws
use Rattle.interval.specs.Held.{AtMost, AtLeast}
use Rattle.interval.specs.Next.{next_up}
use Rattle.interval.specs.Claims.{DivUp, RootUp}
use Rattle.interval.proofs.Ends.{NextUp}
use Rattle.exact.proofs.Laws.{le_refl, le_trans, same-le}
use Rattle.exact.proofs.Monotone.{product-mono, product-both, turned, either-sign, not_negative}
use Rattle.interval.proofs.Rounding.{Rounded, rounded-plus, rounded-minus, lt-units, not-under}
use Rattle.interval.proofs.Bounds.{at-most-through, exact-rounded, lift-up, open_up}
use Rattle.interval.proofs.Operations.{rounded-mul}

-- what is at least zero is at most no float below zero
pub no-negative : (t : ℚ) (n : ℕ) (d : ℤ) → whole 0 ≤ℚ t → t ≤ℚ value (fin true (suc n) d) → ⊥
unfolding ◌≤ℚ◌ value signed negℚ
no-negative t n d h k =
    let p : 0 < suc n * up d * t.den = mul-pos (mul-pos (zero-lt-suc n) (up_pos d)) t.above in
    go t.plus t.minus t.den (suc n * up d) (down d) p (not_negative t h) k
  where
    go : (p m w x y : ℕ) → 0 < x * w → m ≤ p → p * y + x * w ≤ 0 * w + m * y → ⊥
    go p m w x y l h k = omega (arith, mul-le-mul_right y h)

inf-times : (s t : Bool) (m : ℕ) (e : ℤ) → mul binary64 (inf s) (fin t (suc m) e) ≡ inf (unlike s t)
unfolding mul
inf-times s t m e = ap (λ (b : Bool). cond b nan (inf (unlike s t))) (eqb-suc-zero m)

times-inf : (s t : Bool) (m : ℕ) (e : ℤ) → mul binary64 (fin s (suc m) e) (inf t) ≡ inf (unlike s t)
unfolding mul
times-inf s t m e = ap (λ (b : Bool). cond b nan (inf (unlike s t))) (eqb-suc-zero m)

pub mul-up-at-most : (x y z : Float) → NextUp (mul binary64 x y) z → (q t : ℚ) → whole 0 ≤ℚ q → whole 0 ≤ℚ t → AtMost q x → AtMost t y → AtMost (q *ℚ t) z
unfolding mul
mul-up-at-most nan y z n q t a b h k = open_up (q *ℚ t) nan z (inl refl) n
mul-up-at-most (inf true) y z n q t a b h k = absurd h
mul-up-at-most (inf false) nan z n q t a b h k = open_up (q *ℚ t) nan z (inl refl) n
mul-up-at-most (inf false) (inf true) z n q t a b h k = absurd k
mul-up-at-most (inf false) (inf false) z n q t a b h k = open_up (q *ℚ t) (inf false) z (inr refl) n
mul-up-at-most (inf false) (fin s zero d) z n q t a b h k = open_up (q *ℚ t) nan z (inl refl) n
mul-up-at-most (inf false) (fin false (suc m) d) z n q t a b h k = open_up (q *ℚ t) (mul binary64 (inf false) (fin false (suc m) d)) z (inr (inf-times false false m d)) n
mul-up-at-most (inf false) (fin true (suc m) d) z n q t a b h k = absurd (no-negative t m d b k)
mul-up-at-most (fin s m e) nan z n q t a b h k = open_up (q *ℚ t) nan z (inl refl) n
mul-up-at-most (fin s m e) (inf true) z n q t a b h k = absurd k
mul-up-at-most (fin s zero e) (inf false) z n q t a b h k = open_up (q *ℚ t) nan z (inl refl) n
mul-up-at-most (fin false (suc m) e) (inf false) z n q t a b h k = open_up (q *ℚ t) (mul binary64 (fin false (suc m) e) (inf false)) z (inr (times-inf false false m e)) n
mul-up-at-most (fin true (suc m) e) (inf false) z n q t a b h k = absurd (no-negative q m e a h)
mul-up-at-most (fin s m e) (fin u l d) z n q t a b h k =
    let x = fin s m e in
    let y = fin u l d in
    at-most-through (q *ℚ t) (value x *ℚ value y) z (product-both q (value x) t (value y) a b h k) (lift-up (value x *ℚ value y) (mul binary64 x y) z (rounded-mul x y tt tt) n)

-- ---- quotients, by a float above zero
unfoldable pub quotient : (s : Bool) (m : ℕ) (e : ℤ) (n : ℕ) (d : ℤ) → ℚ
unfolding signed
quotient false m e n d = record { plus = m * up e * down d; minus = 0; den = suc n * up d * down e; above = mul-pos (mul-pos (zero-lt-suc n) (up_pos d)) (down_pos e) }
quotient true m e n d = record { plus = 0; minus = m * up e * down d; den = suc n * up d * down e; above = mul-pos (mul-pos (zero-lt-suc n) (up_pos d)) (down_pos e) }

div_is : (s : Bool) (m : ℕ) (e : ℤ) (n : ℕ) (d : ℤ) → div binary64 (fin s m e) (fin false (suc n) d) ≡ round binary64 (unlike s false) (m * up e * down d) (suc n * up d * down e)
unfolding div
div_is s m e n d = ap (λ (b : Bool). cond b (cond (eqb m 0) nan (inf (unlike s false))) (round binary64 (unlike s false) (m * up e * down d) (suc n * up d * down e))) (eqb-suc-zero n)

pub rounded-div : (s : Bool) (m : ℕ) (e : ℤ) (n : ℕ) (d : ℤ) → Rounded (quotient s m e n d) (div binary64 (fin s m e) (fin false (suc n) d))
unfolding quotient
rounded-div false m e n d = subst (Rounded (quotient false m e n d)) (sym (div_is false m e n d)) (rounded-plus (quotient false m e n d) (m * up e * down d) (omega arith))
rounded-div true m e n d = subst (Rounded (quotient true m e n d)) (sym (div_is true m e n d)) (rounded-minus (quotient true m e n d) (m * up e * down d) (omega arith))

below_quotient : (s : Bool) (m : ℕ) (e : ℤ) (n : ℕ) (d : ℤ) (q : ℚ) → q *ℚ value (fin false (suc n) d) ≤ℚ value (fin s m e) → q ≤ℚ quotient s m e n d
unfolding quotient ◌≤ℚ◌ ◌*ℚ◌ value signed negℚ
below_quotient false m e n d q h = omega arith
below_quotient true m e n d q h = omega arith

pub div-up-at-most : (x : Float) (n : ℕ) (d : ℤ) (z : Float) → NextUp (div binary64 x (fin false (suc n) d)) z → (q t : ℚ) → whole 0 ≤ℚ q → AtLeast t (fin false (suc n) d) → AtMost (q *ℚ t) x → AtMost q z
unfolding div
div-up-at-most nan n d z k q t a b h = open_up q nan z (inl refl) k
div-up-at-most (inf true) n d z k q t a b h = absurd h
div-up-at-most (inf false) n d z k q t a b h = open_up q (inf false) z (inr refl) k
div-up-at-most (fin s m e) n d z k q t a b h =
    let y = value (fin false (suc n) d) in
    let g : q *ℚ y ≤ℚ value (fin s m e) =
    le_trans (q *ℚ y) (y *ℚ q) (value (fin s m e)) (turned q y)
    (le_trans (y *ℚ q) (t *ℚ q) (value (fin s m e)) (product-mono y t q b (not_negative q a)) (le_trans (t *ℚ q) (q *ℚ t) (value (fin s m e)) (turned t q) h)) in
    at-most-through q (quotient s m e n d) z (below_quotient s m e n d q g) (lift-up (quotient s m e n d) (div binary64 (fin s m e) (fin false (suc n) d)) z (rounded-div s m e n d) k)

-- ---- roots

-- a number is at least 0, or at most it
square-bound : (p m w x d : ℕ) → m ≤ p → (p * p + m * m) * d + 0 * (w * w) ≤ x * (w * w) + (p * m + m * p) * d → (p - m) * (p - m) * d ≤ x * (w * w)
square-bound p m w x d h k = go (p - m) (omega arith)
  where
    go : (a : ℕ) → p ≡ a + m → a * a * d ≤ x * (w * w)
    go a e =
        let pp : p * p ≡ (a + m) * (a + m) = ap (λ (z : ℕ). z * z) e in
        let pm : p * m ≡ (a + m) * m = ap (λ (z : ℕ). z * m) e in
        omega (arith, ap (λ (z : ℕ). z * d) pp, ap (λ (z : ℕ). z * d) pm)

-- a ^ 2 L ≤ X w ^ 2, X L < Z ^ 2: then a / w ≤ Z / L
root-bound : (a w X Z L : ℕ) → 0 < w → a * a * L ≤ X * (w * w) → X * L < Z * Z → a * L ≤ Z * w
root-bound a w X Z L W h k = go (leb (a * L) (Z * w)) (leb→le (a * L) (Z * w)) (nleb→lt (a * L) (Z * w))
  where
    no : Z * w < a * L → ⊥
    no l =
        let s : Z * w * (Z * w) ≤ a * L * (a * L) = mul-le-mul (le_of_lt l) (le_of_lt l) in
        let t : X * L * (w * w) < Z * Z * (w * w) = mul-lt-mul_of_pos_right k (mul-pos W W) in
        let u : a * a * L * L ≤ X * (w * w) * L = mul-le-mul_right L h in
        omega arith

    go : (b : Bool) → (T b → a * L ≤ Z * w) → (T (not b) → Z * w < a * L) → a * L ≤ Z * w
    go true y n = y tt
    go false y n = absurd (no (n tt))

-- 4 X L < (Z + R) ^ 2 for an R below Z
nearest-bound : (X Z R L : ℕ) → R < Z → 4 * (X * L) < (Z + R) * (Z + R) → X * L < Z * Z
nearest-bound X Z R L l h =
    let s : (Z + R) * (Z + R) ≤ (Z + Z) * (Z + Z) = mul-le-mul (omega arith) (omega arith) in
    omega arith

-- from units to fractions: x / d is X / L, z / c is Z / L
root-units : (a w x d z c X Z L : ℕ) → 0 < w → 0 < L → 0 < d → x * L ≡ X * d → z * L ≡ Z * c → a * a * d ≤ x * (w * w) → X * L < Z * Z → a * c ≤ z * w
root-units a w x d z c X Z L W l D e f h k =
    let s : a * a * d * L ≤ x * (w * w) * L = mul-le-mul_right L h in
    let g : a * a * L * d ≤ X * (w * w) * d = omega (arith, ap (λ (y : ℕ). y * (w * w)) e) in
    let t : a * L ≤ Z * w = root-bound a w X Z L W (le_of_mul-le-mul_right g D) k in
    let u : a * L * c ≤ Z * w * c = mul-le-mul_right c t in
    let v : a * c * L ≤ z * w * L = omega (arith, ap (λ (y : ℕ). y * w) f) in
    le_of_mul-le-mul_right v l

-- a float z above the rounded root of x = m * 2 ^ e
root-above : (m : ℕ) (e : ℤ) → T (fits binary64 (fin false (suc m) e)) → (n : ℕ) (d : ℤ) → T (fits binary64 (fin false n d)) → T (lt (sqrt_of (fin false (suc m) e)) (fin false n d))
    → (q : ℚ) → q.minus ≤ q.plus → q *ℚ q ≤ℚ value (fin false (suc m) e) → q ≤ℚ value (fin false n d)
unfolding ◌≤ℚ◌ ◌*ℚ◌ value signed
root-above m e f n d g l q s h =
    let x = fin false (suc m) e in
    let z = fin false n d in
    let near = correctly-rounded m e f in
    let u = all-in-units n d g in
    let r : near.R < u.0 = lt-units (sqrt_of x) z near.R u.0 near.r_is u.1 l in
    let b : near.X * 2 ^ 1074 < u.0 * u.0 = nearest-bound near.X u.0 near.R (2 ^ 1074) r (near.beats_above z u.0 g u.1 r) in
    let t : (q.plus - q.minus) * (q.plus - q.minus) * down e ≤ suc m * up e * (q.den * q.den) = square-bound q.plus q.minus q.den (suc m * up e) (down e) s h in
    let v : (q.plus - q.minus) * down d ≤ n * up d * q.den =
    root-units (q.plus - q.minus) q.den (suc m * up e) (down e) (n * up d) (down d) near.X u.0 (2 ^ 1074) q.above (pow_pos 1074) (down_pos e) near.x_is.1 u.1.1 t b in
    back q.plus q.minus q.den (n * up d) (down d) s v
  where
    back : (p m w z c : ℕ) → m ≤ p → (p - m) * c ≤ z * w → p * c + 0 * w ≤ z * w + m * c
    back p m w z c h k = go (p - m) (omega arith) k
      where
        go : (a : ℕ) → p ≡ a + m → a * c ≤ z * w → p * c + 0 * w ≤ z * w + m * c
        go a e k = omega (arith, ap (λ (y : ℕ). y * c) e)

-- ---- the root of every float
square-zero : (a b : ℕ) → (a + b) * (a + b) + b * b ≤ (a + b) * b + b * (a + b) → a ≡ 0
square-zero zero b h = refl
square-zero (suc a) b h = let p : 0 < suc a * suc a = mul-pos (zero-lt-suc a) (zero-lt-suc a) in omega arith

no_more : (p m : ℕ) → p * p + m * m ≤ p * m + m * p → p ≤ m
no_more p m l = go (leb p m) (leb→le p m) (nleb→lt p m)
  where
    over : (a : ℕ) → p ≡ a + m → 0 < a → ⊥
    over a e A =
        let z : a ≡ 0 = square-zero a m (subst (λ (v : ℕ). v * v + m * m ≤ v * m + m * v) e l) in
        omega arith

    go : (b : Bool) → (T b → p ≤ m) → (T (not b) → m < p) → p ≤ m
    go true y n = y tt
    go false y n = let g = n tt in absurd (over (p - m) (omega arith) (omega arith))

pub no-square : (q : ℚ) (s : Bool) (e : ℤ) → q *ℚ q ≤ℚ value (fin s 0 e) → q ≤ℚ value (fin s 0 e)
unfolding ◌≤ℚ◌ ◌*ℚ◌ value signed negℚ
no-square q s e h = by_sign s h
  where
    less : (q.plus * q.plus + q.minus * q.minus) * down e ≤ (q.plus * q.minus + q.minus * q.plus) * down e → q.plus * down e ≤ q.minus * down e
    less k = mul-le-mul_right (down e) (no_more q.plus q.minus (le_of_mul-le-mul_right k (down_pos e)))

    by_sign : (s : Bool) → q *ℚ q ≤ℚ value (fin s 0 e) → q ≤ℚ value (fin s 0 e)
    by_sign true h = let l = less (omega arith) in omega arith
    by_sign false h = let l = less (omega arith) in omega arith

-- a negative number is at most every float that is not below zero
at-most-plus : (q : ℚ) (n : ℕ) (d : ℤ) → q.plus ≤ q.minus → q ≤ℚ value (fin false n d)
unfolding ◌≤ℚ◌ value signed
at-most-plus q n d h = omega (arith, mul-le-mul_right (down d) h)

pub root-up-at-most : (x z : Float) → T (fits binary64 x) → NextUp (sqrt_of x) z → (q : ℚ) → AtMost (q *ℚ q) x → AtMost q z
unfolding sqrt_of
root-up-at-most nan z f n q h = open_up q nan z (inl refl) n
root-up-at-most (inf true) z f n q h = absurd h
root-up-at-most (inf false) z f n q h = open_up q (inf false) z (inr refl) n
root-up-at-most (fin s zero e) z f n q h = at-most-through q (value (fin s zero e)) z (no-square q s e h) (lift-up (value (fin s zero e)) (fin s zero e) z (exact-rounded (fin s zero e) tt) n)
root-up-at-most (fin true (suc m) e) z f n q h = open_up q nan z (inl refl) n
root-up-at-most (fin false (suc m) e) z f n q h = ⊎_elim (λ (i : z ≡ inf false). subst (AtMost q) (sym i) tt) (λ (l : T (lt (sqrt_of (fin false (suc m) e)) z)). over z n.f64 l) n.higher
  where
    near : NearestRoot (fin false (suc m) e) (sqrt_of (fin false (suc m) e))
    near = correctly-rounded m e f

    over : (z : Float) → T (fits binary64 z) → T (lt (sqrt_of (fin false (suc m) e)) z) → AtMost q z
    over nan g l = tt
    over (inf false) g l = tt
    over (inf true) g l = absurd (not-under (sqrt_of (fin false (suc m) e)) (inf true) (inr (near.R, near.r_is)) (inl refl) l)
    over (fin true k d) g l = absurd (not-under (sqrt_of (fin false (suc m) e)) (fin true k d) (inr (near.R, near.r_is)) (inr (k, d, refl)) l)
    over (fin false k d) g l = ⊎_elim (λ (i : q.minus ≤ q.plus). root-above m e f k d g l q i h) (λ (i : q.plus ≤ q.minus). at-most-plus q k d i) (either-sign q)

-- ---- quotients as exact numbers: |q / d| * d is at most |q|
-- (q / d) * d = q, for a d above zero
times-back : (q d i : ℚ) → d *ℚ i ≈ℚ whole 1 → q *ℚ i *ℚ d ≤ℚ q
times-back q d i h =
    le_trans (q *ℚ i *ℚ d) (i *ℚ q *ℚ d) q (same-le (q *ℚ i *ℚ d) (i *ℚ q *ℚ d) (laws.mul-same (q *ℚ i) (i *ℚ q) d (laws.mul_comm q i)))
    (le_trans (i *ℚ q *ℚ d) (d *ℚ (i *ℚ q)) q (turned (i *ℚ q) d)
    (le_trans (d *ℚ (i *ℚ q)) (d *ℚ i *ℚ q) q (same-le (d *ℚ (i *ℚ q)) (d *ℚ i *ℚ q) (laws.same-sym (d *ℚ i *ℚ q) (d *ℚ (i *ℚ q)) (laws.mul_assoc d i q)))
    (le_trans (d *ℚ i *ℚ q) (whole 1 *ℚ q) q (same-le (d *ℚ i *ℚ q) (whole 1 *ℚ q) (laws.mul-same (d *ℚ i) (whole 1) q h))
    (le_trans (whole 1 *ℚ q) (q *ℚ whole 1) q (turned (whole 1) q) (same-le (q *ℚ whole 1) q (laws.mul-one q))))))

neg-first : (q i d : ℚ) → negℚ (q *ℚ i) *ℚ d ≤ℚ negℚ q *ℚ i *ℚ d
unfolding ◌≤ℚ◌ negℚ ◌*ℚ◌
neg-first q i d = omega arith

-- |q / d| * d is at most |q|
size-times : (q d : ℚ) → whole 0 <ℚ d → absℚ (q /ℚ d) *ℚ d ≤ℚ absℚ q
unfolding absℚ maxℚ
size-times q d p = go (leℚ (q /ℚ d) (negℚ (q /ℚ d)))
  where
    e : d *ℚ inverse d ≈ℚ whole 1
    e = laws.mul-inverse d p

    go : (b : Bool) → cond b (negℚ (q /ℚ d)) (q /ℚ d) *ℚ d ≤ℚ absℚ q
    go true = le_trans (negℚ (q /ℚ d) *ℚ d) (negℚ q *ℚ inverse d *ℚ d) (absℚ q) (neg-first q (inverse d) d) (le_trans (negℚ q *ℚ inverse d *ℚ d) (negℚ q) (absℚ q) (times-back (negℚ q) d (inverse d) e) (laws.abs-down q))
    go false = le_trans (q /ℚ d *ℚ d) q (absℚ q) (times-back q d (inverse d) e) (laws.abs-up q)

above_zero : (n : ℕ) (d : ℤ) → whole 0 <ℚ value (fin false (suc n) d)
unfolding ◌<ℚ◌ value signed
above_zero n d = let p : 0 < suc n * up d = mul-pos (zero-lt-suc n) (up_pos d) in omega arith

pub div-up-quotient : (x : Float) (n : ℕ) (d : ℤ) (z : Float) → NextUp (div binary64 x (fin false (suc n) d)) z → (q : ℚ) → AtMost (absℚ q) x → AtMost (absℚ (q /ℚ value (fin false (suc n) d))) z
div-up-quotient x n d z k q h =
    let y = value (fin false (suc n) d) in
    div-up-at-most x n d z k (absℚ (q /ℚ y)) y (laws.abs-nonneg (q /ℚ y)) (le_refl y) (at-most-through (absℚ (q /ℚ y) *ℚ y) (absℚ q) x (size-times q y (above_zero n d)) h)

pub div-up-is : (x d z : Float) → lt (fin false 0 (pos 0)) d ≡ true → lt d (inf false) ≡ true → NextUp (div binary64 x d) z → DivUp x d z
unfolding lt
div-up-is x nan z p r k = absurd (true≢false (sym p))
div-up-is x (inf true) z p r k = absurd (true≢false (sym p))
div-up-is x (inf false) z p r k = absurd (true≢false (sym r))
div-up-is x (fin true n d) z p r k = absurd (true≢false (sym p))
div-up-is x (fin false zero d) z p r k = absurd (none (subst T (sym p) tt))
  where
    none : T (ltb (0 * down d) (0 * up d * 1)) → ⊥
    none h = let l = ltb→lt (0 * down d) (0 * up d * 1) h in omega arith
div-up-is x (fin false (suc n) d) z p r k = record { bounds = div-up-at-most x n d z k; quotient = div-up-quotient x n d z k }

pub div-up-none : (x d : Float) → DivUp x d (inf false)
div-up-none x d = record { bounds = λ q t a b h. tt; quotient = λ q h. tt }

-- ---- the root's square
units-square : (x d z c X Z L : ℕ) → 0 < L → x * L ≡ X * d → z * L ≡ Z * c → X * L < Z * Z → x * (c * c) ≤ z * z * d
units-square x d z c X Z L l e f k =
    let a : X * L * (d * (c * c)) ≤ Z * Z * (d * (c * c)) = mul-le-mul_right (d * (c * c)) (le_of_lt k) in
    let p : x * L * (L * (c * c)) ≡ X * d * (L * (c * c)) = ap (λ (y : ℕ). y * (L * (c * c))) e in
    let q : z * L * (z * L) ≡ Z * c * (Z * c) = ap (λ (y : ℕ). y * y) f in
    let r : z * L * (z * L) * d ≡ Z * c * (Z * c) * d = ap (λ (y : ℕ). y * d) q in
    let g : x * (c * c) * (L * L) ≤ z * z * d * (L * L) = omega arith in
    le_of_mul-le-mul_right g (mul-pos l l)

square_above : (m : ℕ) (e : ℤ) → T (fits binary64 (fin false (suc m) e)) → (n : ℕ) (d : ℤ) → T (fits binary64 (fin false n d)) → T (lt (sqrt_of (fin false (suc m) e)) (fin false n d))
    → value (fin false (suc m) e) ≤ℚ value (fin false n d) *ℚ value (fin false n d)
unfolding ◌≤ℚ◌ ◌*ℚ◌ value signed
square_above m e f n d g l =
    let z = fin false n d in
    let near = correctly-rounded m e f in
    let u = all-in-units n d g in
    let r : near.R < u.0 = lt-units (sqrt_of (fin false (suc m) e)) z near.R u.0 near.r_is u.1 l in
    let b : near.X * 2 ^ 1074 < u.0 * u.0 = nearest-bound near.X u.0 near.R (2 ^ 1074) r (near.beats_above z u.0 g u.1 r) in
    let t : suc m * up e * (down d * down d) ≤ n * up d * (n * up d) * down e = units-square (suc m * up e) (down e) (n * up d) (down d) near.X u.0 (2 ^ 1074) (pow_pos 1074) near.x_is.1 u.1.1 b in
    omega arith

-- a float that is not below zero
pub NotMinus : Float → Type 0
NotMinus nan = ⊥
NotMinus (inf s) = ⊥
NotMinus (fin true m e) = ⊥
NotMinus (fin false m e) = Unit {0}

-- a finite float above a value that is not below zero
plus-above : (r z : Float) → (r ≡ inf false) ⊎ ((X : ℕ) × IsUnits r X) → Finite z → T (lt r z) → NotMinus z
unfolding NotMinus
plus-above r nan i f l = f
plus-above r (inf s) i f l = f
plus-above r (fin true m e) i f l = not-under r (fin true m e) i (inr (m, e, refl)) l
plus-above r (fin false m e) i f l = tt

zero-plus : (s : Bool) (e : ℤ) (z : Float) → Finite z → T (lt (fin s 0 e) z) → NotMinus z
unfolding lt NotMinus
zero-plus s e nan f l = f
zero-plus s e (inf t) f l = f
zero-plus s e (fin false n d) f l = tt
zero-plus false e (fin true n d) f l = l
zero-plus true e (fin true n d) f l = let k = ltb→lt (n * up d * down e) (0 * up e * down d) l in omega arith

not-minus-value : (z : Float) → NotMinus z → whole 0 ≤ℚ value z
unfolding NotMinus ◌≤ℚ◌ value signed
not-minus-value nan h = absurd h
not-minus-value (inf s) h = absurd h
not-minus-value (fin true m e) h = absurd h
not-minus-value (fin false m e) h = omega arith

zero-square : (s : Bool) (e : ℤ) (r : ℚ) → value (fin s 0 e) ≤ℚ r *ℚ r
unfolding ◌≤ℚ◌ ◌*ℚ◌ value signed negℚ
zero-square s e r = by_sign s
  where
    plain : (p m : ℕ) → p * m + m * p ≤ p * p + m * m
    plain p m = ⊎_elim (λ (h : m ≤ p). up-side p m h) (λ (h : p ≤ m). let k = up-side m p h in omega arith) (either p m)
      where
        either : (p m : ℕ) → (m ≤ p) ⊎ (p ≤ m)
        either p m = either-sign record { plus = p; minus = m; den = 1; above = zero-lt-suc 0 }

        up-side : (p m : ℕ) → m ≤ p → p * m + m * p ≤ p * p + m * m
        up-side p m h = go (p - m) (omega arith)
          where
            go : (a : ℕ) → p ≡ a + m → p * m + m * p ≤ p * p + m * m
            go a e = subst (λ (v : ℕ). v * m + m * v ≤ v * v + m * m) (sym e) (omega arith)

    by_sign : (s : Bool) → value (fin s 0 e) ≤ℚ r *ℚ r
    by_sign true = let h = mul-le-mul_right (down e) (plain r.plus r.minus) in omega arith
    by_sign false = let h = mul-le-mul_right (down e) (plain r.plus r.minus) in omega arith

-- above a NaN and above +infinity there is nothing finite
nothing_above : (r z : Float) → (r ≡ nan) ⊎ (r ≡ inf false) → NextUp r z → Finite z → ⊥
unfolding next_up
nothing_above r z (inl e) n f = subst Finite (n.is ∙ ap next_up e) f
nothing_above r z (inr e) n f = subst Finite (n.is ∙ ap next_up e) f

finite-above : (r z : Float) → NextUp r z → Finite z → T (lt r z)
finite-above r z n f = ⊎_elim (λ (e : z ≡ inf false). absurd (subst Finite e f)) (λ (l : T (lt r z)). l) n.higher

root-near : (m : ℕ) (e : ℤ) → T (fits binary64 (fin false (suc m) e)) → (z : Float) → NextUp (sqrt_of (fin false (suc m) e)) z → Finite z → NotMinus z
root-near m e f z n g =
    let near = correctly-rounded m e f in
    plus-above (sqrt_of (fin false (suc m) e)) z (inr (near.R, near.r_is)) g (finite-above (sqrt_of (fin false (suc m) e)) z n g)

root-square : (m : ℕ) (e : ℤ) → T (fits binary64 (fin false (suc m) e)) → (z : Float) → NextUp (sqrt_of (fin false (suc m) e)) z → NotMinus z → value (fin false (suc m) e) ≤ℚ value z *ℚ value z
unfolding NotMinus
root-square m e f nan n g = absurd g
root-square m e f (inf s) n g = absurd g
root-square m e f (fin true k d) n g = absurd g
root-square m e f (fin false k d) n g = square_above m e f k d n.f64 (finite-above (sqrt_of (fin false (suc m) e)) (fin false k d) n tt)

pub root-up-is : (x z : Float) → T (fits binary64 x) → NextUp (sqrt_of x) z → RootUp x z
unfolding sqrt_of
root-up-is x z f n = record { bounds = root-up-at-most x z f n; square = squares x f n; positive = λ g. not-minus-value z (signs x f n g) }
  where
    signs : (x : Float) → T (fits binary64 x) → NextUp (sqrt_of x) z → Finite z → NotMinus z
    signs nan f n g = absurd (nothing_above nan z (inl refl) n g)
    signs (inf true) f n g = absurd (nothing_above nan z (inl refl) n g)
    signs (inf false) f n g = absurd (nothing_above (inf false) z (inr refl) n g)
    signs (fin s zero e) f n g = zero-plus s e z g (finite-above (fin s zero e) z n g)
    signs (fin true (suc m) e) f n g = absurd (nothing_above nan z (inl refl) n g)
    signs (fin false (suc m) e) f n g = root-near m e f z n g

    squares : (x : Float) → T (fits binary64 x) → NextUp (sqrt_of x) z → (q : ℚ) → AtMost q x → Finite z → q ≤ℚ value z *ℚ value z
    squares nan f n q h g = absurd (nothing_above nan z (inl refl) n g)
    squares (inf true) f n q h g = absurd h
    squares (inf false) f n q h g = absurd (nothing_above (inf false) z (inr refl) n g)
    squares (fin s zero e) f n q h g = le_trans q (value (fin s zero e)) (value z *ℚ value z) h (zero-square s e (value z))
    squares (fin true (suc m) e) f n q h g = absurd (nothing_above nan z (inl refl) n g)
    squares (fin false (suc m) e) f n q h g = le_trans q (value (fin false (suc m) e)) (value z *ℚ value z) h (root-square m e f z n (root-near m e f z n g))
