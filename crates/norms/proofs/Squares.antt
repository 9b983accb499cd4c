-- Bounds of squares and of their sums in units of 2 ^ -1074.
use mathlib.Core.Path.{◌≡◌, refl, sym, ap, ◌∙◌, subst}
use mathlib.Core.Logic.{inr, ⊎_elim}
use Prim.Native.Nat.{ℕ, ◌+◌, ◌*◌, ◌^◌, ◌≤◌, ◌<◌}
use native.Mathlib.Nat.{le_trans, le_of_eq, eq-zero-or-pos, mul_comm, mul_assoc, mul_right_comm, mul-mul-mul_comm, mul-le-mul, mul-le-mul_right, le_of_mul-le-mul_right, mul-pos}
use native.Mathlib.Omega.{arith}
use mathlib.Core.Bool.{Bool, true, false, not, cond, true≢false, false≢true}
use lib.IntN.{pos}
use lib.Dec.{T, ltb, lit≤, nltb→le}
use lib.Pow.{pow-add, pow_pos}
use lib.Count.{count_trailing_zeros}
use lib.Ieee.{Float, nan, inf, fin, binary64, up, down, size, odd, units, span, climb, round, le, lt, eq}
use lib.Ieee.Exact.{HasValue, odd_sign}
use lib.Ieee.Fits.{round_is, down_pos}
use lib.Ieee.Order.{drop, kept, transfer}
use lib.Ieee.Scale.{grid, finite}
use Rattle.numbers.specs.Numbers.{+0, ◌⊗◌}
use Rattle.numbers.specs.Rounded.{IsUnits}
use Rattle.numbers.specs.Root.{sqrt_of, root_of, floor_root}
use Rattle.numbers.proofs.Monotone.{keeps-order, root-value}
use Rattle.numbers.proofs.Patterns.{sqrt-plus}
use Rattle.numbers.proofs.Correct.{same_units}
use Rattle.norms.specs.Norm.{scaled}
use Rattle.norms.specs.inner.Sums.{faint_sum, most_sum}
use Rattle.norms.proofs.Units.{round-units, square-is, root_units}
use Rattle.norms.proofs.Pairs.{Pair, of-rounded, root-of-zero}
use Rattle.norms.proofs.Scaled.{scaled-is}
use Rattle.norms.proofs.Answers.{no_less}
use Rattle.norms.proofs.Bounds.{round-upper, round-lower}

-- ---- between the two bounds is finite
pub between-finite : (f x : Float) (n : ℕ) → IsUnits f n → le f x ≡ true → le x most_sum ≡ true → T (finite x)
unfolding le lt eq
between-finite nan x n v h k = absurd v
between-finite (inf s) x n v h k = absurd v
between-finite (fin true m e) x n v h k = absurd (true≢false v.0)
between-finite (fin false m e) nan n v h k = absurd (false≢true h)
between-finite (fin false m e) (inf true) n v h k = absurd (false≢true h)
between-finite (fin false m e) (inf false) n v h k = absurd (false≢true k)
between-finite (fin false m e) (fin s m' e') n v h k = tt

pub zero-finite : (x : Float) → le +0 x ≡ true → le x faint_sum ≡ true → T (finite x)
unfolding le lt eq
zero-finite nan h k = absurd (false≢true h)
zero-finite (inf true) h k = absurd (false≢true h)
zero-finite (inf false) h k = absurd (false≢true k)
zero-finite (fin s m e) h k = tt

pub has-finite : (x : Float) (s : Bool) (n : ℕ) → HasValue x s n (2 ^ 1074) → T (finite x)
has-finite nan s n v = absurd v
has-finite (inf t) s n v = absurd v
has-finite (fin t m e) s n v = tt

pub finite-sign : (s : Bool) (a c : ℕ) → T (finite (round binary64 false a c)) → T (finite (round binary64 s a c))
finite-sign s a c t = subst (λ (z : Float). T (finite z)) (sym (round_is binary64 s a c)) (of-units s (kept 53 (a * 2 ^ 1074) c) (drop 53 (a * 2 ^ 1074) c) (subst (λ (z : Float). T (finite z)) (round_is binary64 false a c) t))
  where
    of-units : (s : Bool) (q k : ℕ) → T (finite (units binary64 false q k)) → T (finite (units binary64 s q k))
    of-units s q k = unfold units in go (ltb (q * 2 ^ k) (2 ^ 2098))
      where
        go : (b : Bool) → T (finite (cond b (odd 54 false q k 1074) (inf false))) → T (finite (cond b (odd 54 s q k 1074) (inf s)))
        go true t = has-finite (odd 54 s q k 1074) s (q * 2 ^ k) (odd_sign 54 s q k 1074)
        go false t = absurd t

-- ---- bounds of an entry scaled, and of a square
pub scaled-upper : (z E : ℕ) (x : Float) (s : Bool) (n : ℕ) → E < 2098 → HasValue x s n (2 ^ 1074) → n * 2 ^ 1075 ≤ 2 ^ E * 2 ^ z → (g : ℕ) × HasValue (scaled 1075 z x) s g (2 ^ 1074) × (g ≤ 2 ^ E)
scaled-upper z E x s n h v l =
    let a = n * 2 ^ 1075 in
    let c = 2 ^ 1074 * 2 ^ z in
    let p = round-upper a c E (mul-pos (pow_pos 1074) (pow_pos z)) h (le_trans (mul-le-mul_right (2 ^ 1074) l) (le_of_eq (mul_assoc (2 ^ E) (2 ^ z) (2 ^ 1074) ∙ ap (λ (k : ℕ). 2 ^ E * k) (mul_comm (2 ^ z) (2 ^ 1074))))) in
    (grid binary64 a c, subst (λ (y : Float). HasValue y s (grid binary64 a c) (2 ^ 1074)) (sym (scaled-is 1075 z x s n v)) (round-units s a c (finite-sign s a c p.0)), p.1)

pub square-upper : (E : ℕ) (x : Float) (s : Bool) (n : ℕ) → E < 2098 → HasValue x s n (2 ^ 1074) → n * n * 2 ^ 1074 ≤ 2 ^ E * (2 ^ 1074 * 2 ^ 1074) → (b : ℕ) × IsUnits (x ⊗ x) b × (b ≤ 2 ^ E)
square-upper E x s n h v l =
    let U = 2 ^ 1074 * 2 ^ 1074 in
    let p = round-upper (n * n) (2 ^ 1074 * 2 ^ 1074) E (mul-pos (pow_pos 1074) (pow_pos 1074)) h l in
    (grid binary64 (n * n) (2 ^ 1074 * 2 ^ 1074), subst (λ (y : Float). IsUnits y (grid binary64 (n * n) (2 ^ 1074 * 2 ^ 1074))) (sym (square-is x s n v)) (round-units false (n * n) (2 ^ 1074 * 2 ^ 1074) p.0), p.1)

pub square-lower : (E : ℕ) (x : Float) (s : Bool) (n : ℕ) → E < 2098 → HasValue x s n (2 ^ 1074) → 2 ^ E * (2 ^ 1074 * 2 ^ 1074) ≤ n * n * 2 ^ 1074 → (b : ℕ) → IsUnits (x ⊗ x) b → 2 ^ E ≤ b
square-lower E x s n h v l b u =
    let e = square-is x s n v in
    let f = subst (λ (y : Float). T (finite y)) e (has-finite (x ⊗ x) false b u) in
    le_trans (round-lower (n * n) (2 ^ 1074 * 2 ^ 1074) E (mul-pos (pow_pos 1074) (pow_pos 1074)) h l f)
    (le_of_eq (same_units (x ⊗ x) (grid binary64 (n * n) (2 ^ 1074 * 2 ^ 1074)) b (subst (λ (y : Float). IsUnits y (grid binary64 (n * n) (2 ^ 1074 * 2 ^ 1074))) (sym e) (round-units false (n * n) (2 ^ 1074 * 2 ^ 1074) f)) u))

-- n is at most 2 ^ 563 * 2 ^ t, or at least 2 ^ 563
pub square_le : (n a : ℕ) → n ≤ a → n * n * 2 ^ 1074 ≤ a * a * 2 ^ 1074
square_le n a h = mul-le-mul_right (2 ^ 1074) (mul-le-mul h h)

pub tiny-square : (t n : ℕ) → n ≤ 2 ^ 563 * 2 ^ t → n * n * 2 ^ 1074 ≤ 2 ^ (52 + 2 * t) * (2 ^ 1074 * 2 ^ 1074)
tiny-square t n h =
    le_trans (square_le n (2 ^ 563 * 2 ^ t) h)
    (le_of_eq (ap (λ (k : ℕ). k * 2 ^ 1074) (mul-mul-mul_comm (2 ^ 563) (2 ^ t) (2 ^ 563) (2 ^ t) ∙ ap (λ (k : ℕ). 2 ^ 563 * 2 ^ 563 * k) (sym (pow-add 2 t t) ∙ ap (λ (k : ℕ). 2 ^ k) (let e : t + t ≡ 2 * t = omega arith in e)))
    ∙ mul_right_comm (2 ^ 563 * 2 ^ 563) (2 ^ (2 * t)) (2 ^ 1074)
    ∙ sym (ap (λ (k : ℕ). k * (2 ^ 1074 * 2 ^ 1074)) (pow-add 2 52 (2 * t)) ∙ mul_right_comm (2 ^ 52) (2 ^ (2 * t)) (2 ^ 1074 * 2 ^ 1074))))

pub square-good : (t : ℕ) (x y : Float) (s : Bool) (n : ℕ) → HasValue x s n (2 ^ 1074) → HasValue y s (n * 2 ^ t) (2 ^ 1074) → 2 ^ 563 ≤ n → T (finite (x ⊗ x)) → T (finite (y ⊗ y)) → Pair (2 * t) (x ⊗ x) (y ⊗ y)
square-good t x y s n v w r f g =
    of-rounded (2 * t) (n * n) (2 ^ 1074 * 2 ^ 1074) (x ⊗ x) (y ⊗ y) (mul-pos (pow_pos 1074) (pow_pos 1074)) (square_le (2 ^ 563) n r) (square-is x s n v)
    (square-is y s (n * 2 ^ t) w ∙ ap (λ (z : ℕ). round binary64 false z (2 ^ 1074 * 2 ^ 1074)) (mul-mul-mul_comm n (2 ^ t) n (2 ^ t) ∙ ap (λ (z : ℕ). n * n * z) (sym (pow-add 2 t t) ∙ ap (λ (z : ℕ). 2 ^ z) (let e : t + t ≡ 2 * t = omega arith in e))))
    f g (λ m u. inr (square-lower 52 x s n (lit≤ tt) v (square_le (2 ^ 563) n r) m u))

pub over-square : round binary64 false (2 ^ 1629 * 2 ^ 1629) (2 ^ 1074 * 2 ^ 1074) ≡ inf false
unfolding round size units odd span climb count_trailing_zeros
over-square = refl

-- ---- `lt` in units, both ways
pub not-less-units : (x y : Float) (a b : ℕ) → IsUnits x a → IsUnits y b → b ≤ a → lt x y ≡ false
unfolding lt
not-less-units nan y a b v w h = absurd v
not-less-units (inf s) y a b v w h = absurd v
not-less-units (fin true m e) y a b v w h = absurd (true≢false v.0)
not-less-units (fin false m e) nan a b v w h = absurd w
not-less-units (fin false m e) (inf t) a b v w h = absurd w
not-less-units (fin false m e) (fin true n d) a b v w h = absurd (true≢false w.0)
not-less-units (fin false m e) (fin false n d) a b v w h =
    no_less (m * up e * down d) (n * up d * down e) (transfer (n * up d) (m * up e) (down d) (down e) b a (2 ^ 1074) (2 ^ 1074) (pow_pos 1074) (pow_pos 1074) w.1 v.1 (mul-le-mul_right (2 ^ 1074) h))

pub units-not-less : (x y : Float) (a b : ℕ) → IsUnits x a → IsUnits y b → lt x y ≡ false → b ≤ a
unfolding lt
units-not-less nan y a b v w h = absurd v
units-not-less (inf s) y a b v w h = absurd v
units-not-less (fin true m e) y a b v w h = absurd (true≢false v.0)
units-not-less (fin false m e) nan a b v w h = absurd w
units-not-less (fin false m e) (inf t) a b v w h = absurd w
units-not-less (fin false m e) (fin true n d) a b v w h = absurd (true≢false w.0)
units-not-less (fin false m e) (fin false n d) a b v w h =
    let c : n * up d * down e ≤ m * up e * down d = nltb→le (m * up e * down d) (n * up d * down e) (subst (λ (t : Bool). T (not t)) (sym h) tt) in
    le_of_mul-le-mul_right
    (le_trans (le_of_eq (sym (mul_assoc b (down d) (down e)) ∙ ap (λ (k : ℕ). k * down e) (sym w.1) ∙ mul_right_comm (n * up d) (2 ^ 1074) (down e)))
    (le_trans (mul-le-mul_right (2 ^ 1074) c) (le_of_eq (mul_right_comm (m * up e) (down d) (2 ^ 1074) ∙ ap (λ (k : ℕ). k * down d) v.1 ∙ mul_assoc a (down e) (down d) ∙ ap (λ (k : ℕ). a * k) (mul_comm (down e) (down d))))))
    (mul-pos (down_pos d) (down_pos e))

-- the root of what is at most 2 ^ 20 is at most 2 ^ 10
pub root-1024 : sqrt_of (fin false 1 (pos 20)) ≡ fin false 1 (pos 10)
unfolding sqrt_of root_of floor_root size odd span climb count_trailing_zeros
root-1024 = refl

pub root-under : (x : Float) (n : ℕ) → IsUnits x n → n ≤ 2 ^ 1094 → (r : ℕ) × IsUnits (sqrt_of x) r × (r ≤ 2 ^ 1084)
root-under x n v h =
    let r : (r : ℕ) × IsUnits (sqrt_of x) r = ⊎_elim
    (λ (z : n ≡ 0). (0, root-of-zero x (subst (λ (k : ℕ). IsUnits x k) z v)))
    (λ (p : 0 < n). (root_units n, subst (λ (y : Float). IsUnits y (root_units n)) (sym (sqrt-plus x n v p)) (root-value n)))
    (eq-zero-or-pos n) in
    let o : lt (fin false 1 (pos 10)) (sqrt_of x) ≡ false = ap (λ (y : Float). lt y (sqrt_of x)) (sym root-1024) ∙ keeps-order (fin false 1 (pos 20)) x (not-less-units (fin false 1 (pos 20)) x (2 ^ 1094) n (refl, refl) v h) in
    (r.0, r.1, units-not-less (fin false 1 (pos 10)) (sqrt_of x) (2 ^ 1084) r.0 (refl, refl) r.1 o)

pub low-units : IsUnits faint_sum (2 ^ 994)
low-units = (refl, refl)
