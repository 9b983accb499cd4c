-- The law of rounding to the nearest that outward rounding stands on: a float above the rounded value is at least the exact one, and a float below it at most. Subnormals and overflow are in it.
use mathlib.Core.Path.{◌≡◌, refl, sym, ap, ◌∙◌, subst}
use mathlib.Core.Logic.{◌⊎◌, inl, inr}
use Prim.Native.Nat.{ℕ, zero, suc, ◌+◌, ◌*◌, ◌^◌, ◌%◌, ◌≤◌, ◌<◌}
use native.Mathlib.Nat.{le_antisymm, le_of_eq, le_of_lt, lt_of_lt_of_le, lt_of_le_of_lt, zero-mul, mul-pos, mul-le-mul_right, mul-lt-mul_of_pos_right, lt_of_mul-lt-mul_right, le_of_mul-le-mul_right}
use native.Mathlib.Omega.{arith}
use mathlib.Core.Bool.{Bool, true, false, not, ◌&&◌, cond, true≢false}
use lib.IntN.{ℤ}
use lib.Dec.{T, ltb, leb, eqb, ltb→lt}
use lib.Pow.{pow_pos, pow-add}
use lib.Ieee.{Float, nan, inf, fin, binary64, up, down, odd, units, round, neg, lt, le, fits}
use lib.Ieee.Fits.{round_is, down_pos, and_r, neg-fits}
use lib.Ieee.Exact.{HasValue, odd_sign, round_exact}
use lib.Ieee.Order.{drop, kept, round_mono}
use Rattle.numbers.specs.Rounded.{IsUnits}
use Rattle.numbers.proofs.Correct.{in-units, all-in-units}
use Rattle.exact.specs.Exact.{ℚ, ◌≤ℚ◌, ◌≈ℚ◌, over, negℚ, value, Finite, signed}
use Rattle.exact.proofs.Values.{at_most, size-is-value, neg-is-neg}
use Rattle.exact.proofs.Laws as laws
use Rattle.interval.specs.Held.{AtMost, AtLeast}
use Rattle.interval.proofs.Signs.{neg-neg, lt-neg, round-neg, at-least-neg, at-most-neg}

-- ---- what is known of the rounded value of a fraction that is not negative
units-cases : (q k : ℕ) → (units binary64 false q k ≡ inf false) ⊎ ((X : ℕ) × IsUnits (units binary64 false q k) X)
unfolding units
units-cases q k = go (ltb (q * 2 ^ k) (2 ^ 2098))
  where
    go : (b : Bool) → (cond b (odd 54 false q k 1074) (inf false) ≡ inf false) ⊎ ((X : ℕ) × IsUnits (cond b (odd 54 false q k 1074) (inf false)) X)
    go true = inr (q * 2 ^ k, odd_sign 54 false q k 1074)
    go false = inl refl

round-cases : (a c : ℕ) → (round binary64 false a c ≡ inf false) ⊎ ((X : ℕ) × IsUnits (round binary64 false a c) X)
round-cases a c =
    subst (λ (z : Float). (z ≡ inf false) ⊎ ((X : ℕ) × IsUnits z X)) (sym (round_is binary64 false a c))
    (units-cases (kept 53 (a * 2 ^ 1074) c) (drop 53 (a * 2 ^ 1074) c))

-- ---- an f64 that is finite and not negative, in units, is what those units round to
below-overflow : (m : ℕ) (e : ℤ) → T (fits binary64 (fin false m e)) → m * up e < 2 ^ 1024 * down e
unfolding fits
below-overflow zero e h = lt_of_le_of_lt (le_of_eq (zero-mul (up e))) (mul-pos (pow_pos 1024) (down_pos e))
below-overflow (suc m) e h =
    let a = eqb (suc m % 2) 1 in
    let b = ltb (suc m) (2 ^ 53) in
    let c = leb (down e) (2 ^ 1074) in
    ltb→lt (suc m * up e) (2 ^ 1024 * down e) (and_r (a && b && c) (ltb (suc m * up e) (2 ^ 1024 * down e)) h)

fewer-units : (m d Y L M : ℕ) → 0 < L → m * L ≡ Y * d → m < M * d → Y < L * M
fewer-units m d Y L M l e h =
    let k : m * L < M * d * L = mul-lt-mul_of_pos_right h l in
    let g : Y * d < L * M * d = omega arith in
    lt_of_mul-lt-mul_right d g

pub itself : (m : ℕ) (e : ℤ) → T (fits binary64 (fin false m e)) → (Y : ℕ) × IsUnits (fin false m e) Y × IsUnits (round binary64 false Y (2 ^ 1074)) Y
itself m e h =
    let u = all-in-units m e h in
    let g = in-units (fin false m e) u.0 h u.1 in
    let few : u.0 < 2 ^ 2098 = lt_of_lt_of_le (fewer-units (m * up e) (down e) u.0 (2 ^ 1074) (2 ^ 1024) (pow_pos 1074) u.1.1 (below-overflow m e h)) (le_of_eq (sym (pow-add 2 1074 1024))) in (
      u.0,
      u.1,
      round_exact binary64 false u.0 (2 ^ 1074) g.0 g.1 (pow_pos 1074) g.2 (lt_of_le_of_lt (le_of_eq (sym g.3)) few) (ap (λ (z : ℕ). z * 2 ^ 1074) g.3),
    )

-- ---- the order of two values that are not negative, as an order of fractions
-- x / p is a / L, y / q is b / L
units-le : (x y p q a b L : ℕ) → 0 < L → x * L ≡ a * p → y * L ≡ b * q → 0 < p → 0 < q → x * q ≤ y * p → a ≤ b
units-le x y p q a b L l e f P Q h =
    let k : x * q * L ≤ y * p * L = mul-le-mul_right L h in
    let g : a * (p * q) ≤ b * (p * q) = omega (arith, ap (λ (z : ℕ). z * q) e, ap (λ (z : ℕ). z * p) f) in
    le_of_mul-le-mul_right g (mul-pos P Q)

units_lt : (x y p q a b L : ℕ) → 0 < L → x * L ≡ a * p → y * L ≡ b * q → 0 < p → 0 < q → x * q < y * p → a < b
units_lt x y p q a b L l e f P Q h =
    let k : x * q * L < y * p * L = mul-lt-mul_of_pos_right h l in
    let g : a * (p * q) < b * (p * q) = omega (arith, ap (λ (z : ℕ). z * q) e, ap (λ (z : ℕ). z * p) f) in
    lt_of_mul-lt-mul_right (p * q) g

pub le-units : (x y : Float) (a b : ℕ) → IsUnits x a → IsUnits y b → T (le x y) → a ≤ b
unfolding le
le-units nan y a b v w h = absurd v
le-units (inf s) y a b v w h = absurd v
le-units (fin true m e) y a b v w h = absurd (true≢false v.0)
le-units (fin false m e) nan a b v w h = absurd w
le-units (fin false m e) (inf t) a b v w h = absurd w
le-units (fin false m e) (fin true n d) a b v w h = absurd (true≢false w.0)
le-units (fin false m e) (fin false n d) a b v w h =
    units-le (m * up e) (n * up d) (down e) (down d) a b (2 ^ 1074) (pow_pos 1074) v.1 w.1 (down_pos e) (down_pos d) (at_most (m * up e * down d) (n * up d * down e) h)

pub lt-units : (x y : Float) (a b : ℕ) → IsUnits x a → IsUnits y b → T (lt x y) → a < b
unfolding lt
lt-units nan y a b v w h = absurd v
lt-units (inf s) y a b v w h = absurd v
lt-units (fin true m e) y a b v w h = absurd (true≢false v.0)
lt-units (fin false m e) nan a b v w h = absurd w
lt-units (fin false m e) (inf t) a b v w h = absurd w
lt-units (fin false m e) (fin true n d) a b v w h = absurd (true≢false w.0)
lt-units (fin false m e) (fin false n d) a b v w h =
    units_lt (m * up e) (n * up d) (down e) (down d) a b (2 ^ 1074) (pow_pos 1074) v.1 w.1 (down_pos e) (down_pos d) (ltb→lt (m * up e * down d) (n * up d * down e) h)

-- ---- the law, for a fraction a / c that is not negative and a float y that is not
decide : (a b : ℕ) → (a ≤ b) ⊎ (b ≤ a)
decide a b = go (leb a b) (lib.Dec.leb→le a b) (lib.Dec.nleb→lt a b)
  where
    go : (t : Bool) → (T t → a ≤ b) → (T (not t) → b < a) → (a ≤ b) ⊎ (b ≤ a)
    go true y n = inl (y tt)
    go false y n = inr (le_of_lt (n tt))

-- from units to the float's own fraction
of-units : (a c n d Y L : ℕ) → 0 < L → n * L ≡ Y * d → a * L ≤ Y * c → a * d ≤ n * c
of-units a c n d Y L l e h =
    let k : a * L * d ≤ Y * c * d = mul-le-mul_right d h in
    let g : a * d * L ≤ n * c * L = omega (arith, ap (λ (z : ℕ). z * c) e) in
    le_of_mul-le-mul_right g l

of-units' : (a c n d Y L : ℕ) → 0 < L → n * L ≡ Y * d → Y * c ≤ a * L → n * c ≤ a * d
of-units' a c n d Y L l e h =
    let k : Y * c * d ≤ a * L * d = mul-le-mul_right d h in
    let g : n * c * L ≤ a * d * L = omega (arith, ap (λ (z : ℕ). z * c) e) in
    le_of_mul-le-mul_right g l

clash : (a b : ℕ) → a ≤ b → b < a → ⊥
clash a b h k = omega arith

no-inf-below : (y : Float) → T (lt (inf false) y) → ⊥
unfolding lt
no-inf-below nan h = h
no-inf-below (inf t) h = h
no-inf-below (fin t n d) h = h

no-inf-le : (y : Float) (Y : ℕ) → IsUnits y Y → T (le (inf false) y) → ⊥
unfolding le
no-inf-le nan Y v h = v
no-inf-le (inf t) Y v h = v
no-inf-le (fin t n d) Y v h = h

above-plus : (a c n : ℕ) (d : ℤ) → 0 < c → T (fits binary64 (fin false n d)) → T (lt (round binary64 false a c) (fin false n d)) → a * down d ≤ n * up d * c
above-plus a c n d C f l =
    let u = itself n d f in
    let Y = u.0 in
    elim (decide (a * 2 ^ 1074) (Y * c)) [
      | inl h ↦ of-units a c (n * up d) (down d) Y (2 ^ 1074) (pow_pos 1074) u.1.1 h
      | inr h ↦ absurd (elim (round-cases a c) [
        | inl i ↦ no-inf-below (fin false n d) (subst (λ (z : Float). T (lt z (fin false n d))) i l)
        | inr r ↦
            clash Y r.0
            (le-units (round binary64 false Y (2 ^ 1074)) (round binary64 false a c) Y r.0 u.2 r.1 (round_mono binary64 Y (2 ^ 1074) a c (pow_pos 1074) C h))
            (lt-units (round binary64 false a c) (fin false n d) r.0 Y r.1 u.1 l)
      ])
    ]

below-plus : (a c n : ℕ) (d : ℤ) → 0 < c → T (fits binary64 (fin false n d)) → T (lt (fin false n d) (round binary64 false a c)) → n * up d * c ≤ a * down d
below-plus a c n d C f l =
    let u = itself n d f in
    let Y = u.0 in
    elim (decide (Y * c) (a * 2 ^ 1074)) [
      | inl h ↦ of-units' a c (n * up d) (down d) Y (2 ^ 1074) (pow_pos 1074) u.1.1 h
      | inr h ↦
          let m : T (le (round binary64 false a c) (round binary64 false Y (2 ^ 1074))) = round_mono binary64 a c Y (2 ^ 1074) C (pow_pos 1074) h in
          absurd (elim (round-cases a c) [
            | inl i ↦ no-inf-le (round binary64 false Y (2 ^ 1074)) Y u.2 (subst (λ (z : Float). T (le z (round binary64 false Y (2 ^ 1074)))) i m)
            | inr r ↦
                clash r.0 Y
                (le-units (round binary64 false a c) (round binary64 false Y (2 ^ 1074)) r.0 Y r.1 u.2 m)
                (lt-units (fin false n d) (round binary64 false a c) Y r.0 u.1 r.1 l)
          ])
    ]

-- ---- v is rounded to r
pub record Rounded (v : ℚ) (r : Float) : Type 0 where
  pub above : (y : Float) → T (fits binary64 y) → T (lt r y) → AtMost v y
  pub below : (y : Float) → T (fits binary64 y) → T (lt y r) → AtLeast v y
  pub exact : (w : Float) → T (fits binary64 w) → Finite w → value w ≈ℚ v → Finite r × (value r ≈ℚ v)

-- a rounded value that is not negative is below no negative number
pub not-under : (r y : Float) → (r ≡ inf false) ⊎ ((X : ℕ) × IsUnits r X) → (y ≡ inf true) ⊎ ((m : ℕ) × (e : ℤ) × (y ≡ fin true m e)) → T (lt r y) → ⊥
unfolding lt
not-under nan y i j h = h
not-under (inf true) y (inl i) j h = absurd (sign i)
  where
    sign : inf true ≡ inf false → ⊥
    sign p = let z : ◌≡◌ {A = ℕ} 0 1 = cc in omega arith
not-under (inf true) y (inr r) j h = r.1
not-under (inf false) y i j h = no-inf-below y h
not-under (fin true m e) y (inl i) j h = let z : ◌≡◌ {A = ℕ} 0 1 = cc in omega arith
not-under (fin true m e) y (inr r) j h = true≢false r.1.0
not-under (fin false m e) y i (inl j) h = subst (λ (z : Float). T (lt (fin false m e) z)) j h
not-under (fin false m e) y i (inr j) h = subst (λ (z : Float). T (lt (fin false m e) z)) j.2 h

no-inf-under : (r : Float) → (r ≡ inf false) ⊎ ((X : ℕ) × IsUnits r X) → T (lt (inf false) r) → ⊥
no-inf-under r i h = no-inf-below r h

plus-above : (p n d a : ℕ) (D : 0 < d) → p ≡ a + n → (y : Float) → T (fits binary64 y) → T (lt (round binary64 false a d) y) → AtMost (record { plus = p; minus = n; den = d; above = D }) y
unfolding ◌≤ℚ◌ negℚ value signed
plus-above p n d a D e nan f l = tt
plus-above p n d a D e (inf false) f l = tt
plus-above p n d a D e (inf true) f l = absurd (not-under (round binary64 false a d) (inf true) (round-cases a d) (inl refl) l)
plus-above p n d a D e (fin true m k) f l = absurd (not-under (round binary64 false a d) (fin true m k) (round-cases a d) (inr (m, k, refl)) l)
plus-above p n d a D e (fin false m k) f l = omega (arith, above-plus a d m k D f l, ap (λ (z : ℕ). z * down k) e)

plus-below : (p n d a : ℕ) (D : 0 < d) → p ≡ a + n → (y : Float) → T (fits binary64 y) → T (lt y (round binary64 false a d)) → AtLeast (record { plus = p; minus = n; den = d; above = D }) y
unfolding ◌≤ℚ◌ negℚ value signed
plus-below p n d a D e nan f l = tt
plus-below p n d a D e (inf true) f l = tt
plus-below p n d a D e (inf false) f l = absurd (no-inf-under (round binary64 false a d) (round-cases a d) l)
plus-below p n d a D e (fin true m k) f l = omega (arith, ap (λ (z : ℕ). z * down k) e)
plus-below p n d a D e (fin false m k) f l = omega (arith, below-plus a d m k D f l, ap (λ (z : ℕ). z * down k) e)

-- ---- a fraction that is an f64's value is rounded to that value
same_size : (t : Bool) (m : ℕ) (e : ℤ) (p n d a : ℕ) (D : 0 < d) → p ≡ a + n → value (fin t m e) ≈ℚ record { plus = p; minus = n; den = d; above = D } → m * up e * d ≡ a * down e
unfolding ◌≈ℚ◌ value signed negℚ
same_size false m e p n d a D h k = omega (arith, ap (λ (z : ℕ). z * down e) h)
same_size true m e p n d a D h k = omega (arith, ap (λ (z : ℕ). z * down e) h)

in-f64 : (m : ℕ) (e : ℤ) → T (fits binary64 (fin false m e)) → (a d : ℕ) → 0 < d → m * up e * d ≡ a * down e → HasValue (round binary64 false a d) false a d
in-f64 m e f a d D h =
    let u = all-in-units m e f in
    let g = in-units (fin false m e) u.0 f u.1 in
    let few : u.0 < 2 ^ 2098 = lt_of_lt_of_le (fewer-units (m * up e) (down e) u.0 (2 ^ 1074) (2 ^ 1024) (pow_pos 1074) u.1.1 (below-overflow m e f)) (le_of_eq (sym (pow-add 2 1074 1024))) in
    round_exact binary64 false a d g.0 g.1 D g.2 (lt_of_le_of_lt (le_of_eq (sym g.3)) few)
    (across (m * up e) (down e) u.0 (2 ^ 1074) a d (down_pos e) u.1.1 h ∙ ap (λ (z : ℕ). z * d) g.3)
  where
    across : (x c Y L a d : ℕ) → 0 < c → x * L ≡ Y * c → x * d ≡ a * c → a * L ≡ Y * d
    across x c Y L a d C i j =
        let k : a * L * c ≡ Y * d * c = omega (arith, ap (λ (z : ℕ). z * d) i, ap (λ (z : ℕ). z * L) j) in
        le_antisymm (le_of_mul-le-mul_right (le_of_eq k) C) (le_of_mul-le-mul_right (le_of_eq (sym k)) C)

has-finite : (r : Float) (a c : ℕ) → HasValue r false a c → Finite r
has-finite nan a c h = h
has-finite (inf s) a c h = h
has-finite (fin s m e) a c h = tt

unsigned : (t : Bool) (m : ℕ) (e : ℤ) → T (fits binary64 (fin t m e)) → T (fits binary64 (fin false m e))
unfolding neg
unsigned true m e f = neg-fits binary64 (fin true m e) f
unsigned false m e f = f

same-fraction : (p n d a : ℕ) (D : 0 < d) → p ≡ a + n → over a d D ≈ℚ record { plus = p; minus = n; den = d; above = D }
unfolding ◌≈ℚ◌
same-fraction p n d a D h = omega (arith, ap (λ (z : ℕ). z * d) h)

plus-exact : (p n d a : ℕ) (D : 0 < d) → p ≡ a + n → (w : Float) → T (fits binary64 w) → Finite w → value w ≈ℚ record { plus = p; minus = n; den = d; above = D }
    → Finite (round binary64 false a d) × (value (round binary64 false a d) ≈ℚ record { plus = p; minus = n; den = d; above = D })
plus-exact p n d a D h nan f g k = absurd g
plus-exact p n d a D h (inf s) f g k = absurd g
plus-exact p n d a D h (fin t m e) f g k =
    let v : ℚ = record { plus = p; minus = n; den = d; above = D } in
    let r = round binary64 false a d in
    let i : HasValue r false a d = in-f64 m e (unsigned t m e f) a d D (same_size t m e p n d a D h k) in
    (has-finite r a d i, laws.same-trans (value r) (over a d D) v ((size-is-value r a d D).0 i) (same-fraction p n d a D h))

pub neg-finite : (x : Float) → Finite x → Finite (neg x)
unfolding neg
neg-finite nan f = f
neg-finite (inf s) f = f
neg-finite (fin s m e) f = tt

turn : (a b : ℚ) → a ≈ℚ negℚ b → negℚ a ≈ℚ b
unfolding ◌≈ℚ◌ negℚ
turn a b h = omega arith

neg-exact : (v : ℚ) (r : Float) → ((w : Float) → T (fits binary64 w) → Finite w → value w ≈ℚ v → Finite r × (value r ≈ℚ v))
    → (w : Float) → T (fits binary64 w) → Finite w → value w ≈ℚ negℚ v → Finite (neg r) × (value (neg r) ≈ℚ negℚ v)
neg-exact v r h w f g k =
    let i : value (neg w) ≈ℚ v = laws.same-trans (value (neg w)) (negℚ (value w)) v (neg-is-neg w g) (turn (value w) v k) in
    let j = h (neg w) (neg-fits binary64 w f) (neg-finite w g) i in
    (neg-finite r j.0, laws.same-trans (value (neg r)) (negℚ (value r)) (negℚ v) (neg-is-neg r j.0) (laws.neg_same (value r) v j.1))

pub rounded-plus : (v : ℚ) (a : ℕ) → v.plus ≡ a + v.minus → Rounded v (round binary64 false a v.den)
rounded-plus v a e = record {
  above = plus-above v.plus v.minus v.den a v.above e;
  below = plus-below v.plus v.minus v.den a v.above e;
  exact = plus-exact v.plus v.minus v.den a v.above e;
}

pub rounded-neg : (v : ℚ) (r : Float) → Rounded v r → Rounded (negℚ v) (neg r)
rounded-neg v r h = record {
  above = λ y f l.
      subst (λ (z : Float). AtMost (negℚ v) z) (neg-neg y)
      (at-most-neg v (neg y) (h.below (neg y) (neg-fits binary64 y f) (subst T (lt-neg (neg r) y ∙ ap (lt (neg y)) (neg-neg r)) l)));
  below = λ y f l.
      subst (λ (z : Float). AtLeast (negℚ v) z) (neg-neg y)
      (at-least-neg v (neg y) (h.above (neg y) (neg-fits binary64 y f) (subst T (lt-neg y (neg r) ∙ ap (λ (z : Float). lt z (neg y)) (neg-neg r)) l)));
  exact = neg-exact v r h.exact;
}

pub rounded-minus : (v : ℚ) (a : ℕ) → v.minus ≡ a + v.plus → Rounded v (round binary64 true a v.den)
unfolding negℚ
rounded-minus v a e = subst (λ (r : Float). Rounded v r) (sym (round-neg binary64 a v.den)) (rounded-neg (negℚ v) (round binary64 false a v.den) (rounded-plus (negℚ v) a e))
