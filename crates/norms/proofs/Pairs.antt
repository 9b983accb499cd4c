-- Two ways to a norm, of which the second has 2 ^ t times the entries of the first: its squares and sums are 4 ^ t times, and its root is 2 ^ t times those of the first.
use mathlib.Core.Path.{◌≡◌, refl, sym, ap, ◌∙◌, subst}
use mathlib.Core.Logic.{◌⊎◌, inl, inr, ⊎_elim}
use Prim.Native.Nat.{ℕ, zero, suc, ◌+◌, ◌*◌, ◌^◌, ◌≤◌, ◌<◌}
use native.Mathlib.Nat.{le_trans, le_of_eq, le_refl, lt_irrefl, zero-lt-suc, eq-zero-or-pos, zero-mul, add-mul, mul_comm, mul_assoc, mul-mul-mul_comm, mul-le-mul, mul-le-mul_right, le_of_mul-le-mul_right, mul-pos}
use native.Mathlib.Omega.{arith}
use mathlib.Core.Bool.{Bool, true, false, true≢false}
use lib.Dec.{T, leb→le, eqb-suc-zero}
use lib.Pow.{pow-add, pow_pos}
use lib.Count.{count_trailing_zeros}
use lib.Ieee.{Float, nan, inf, fin, binary64, up, down, size, odd, units, span, climb, round, fits}
use lib.Ieee.Exact.{HasValue}
use lib.Ieee.Fits.{up_pos, down_pos, nan-fits}
use lib.Ieee.Scale.{grid, finite}
use Rattle.numbers.specs.Numbers.{+0, -0, Σ, ◌⊕◌, ◌⊗◌}
use Rattle.numbers.specs.Rounded.{IsUnits}
use Rattle.numbers.specs.Root.{sqrt_of}
use Rattle.numbers.proofs.Correct.{correctly-rounded}
use Rattle.numbers.proofs.Patterns.{sqrt-plus}
use Rattle.numbers.proofs.Monotone as root
use Rattle.norms.specs.Claims.{is_normal, NormalOrZero}
use Rattle.norms.proofs.Units.{round-units, round-twos, square-is, sum_is, sum_first, root-range, root_units, root-twos}

-- ---- what it is to be in the normal range, in units
pub normal-finite : (x : Float) → T (is_normal x) → T (finite x)
normal-finite nan h = absurd h
normal-finite (inf s) h = absurd h
normal-finite (fin s m e) h = tt

pub finite-of : (x : Float) → NormalOrZero x → T (finite x)
finite-of nan h = absurd (h refl)
finite-of (inf s) h = absurd (h refl)
finite-of (fin s m e) h = tt

pub normal-units : (x : Float) (s : Bool) (n : ℕ) → HasValue x s n (2 ^ 1074) → T (is_normal x) → 2 ^ 52 ≤ n
normal-units nan s n v h = absurd v
normal-units (inf t) s n v h = absurd v
normal-units (fin t m e) s n v h =
    le_of_mul-le-mul_right
    (le_trans (le_of_eq (mul_comm (2 ^ 52) (down e)))
    (le_trans (mul-le-mul_right (2 ^ 52) (leb→le (down e) (m * up e * 2 ^ 1022) h))
    (le_of_eq (mul_assoc (m * up e) (2 ^ 1022) (2 ^ 52) ∙ v.1))))
    (down_pos e)

-- zero, or 2 ^ 52 units at least
abbrev pub Big : ℕ → Type 0
Big n = (n ≡ 0) ⊎ (2 ^ 52 ≤ n)

pub big-of : (x : Float) (s : Bool) (n : ℕ) → HasValue x s n (2 ^ 1074) → NormalOrZero x → Big n
big-of nan s n v h = absurd v
big-of (inf t) s n v h = absurd v
big-of (fin t zero e) s n v h = inl (⊎_elim (λ (z : n ≡ 0). z) (λ (p : 0 < n). absurd (lt_irrefl 0 (subst (λ (k : ℕ). 0 < k) (sym v.1 ∙ ap (λ (k : ℕ). k * 2 ^ 1074) (zero-mul (up e)) ∙ zero-mul (2 ^ 1074)) (mul-pos p (down_pos e))))) (eq-zero-or-pos n))
big-of (fin t (suc m) e) s n v h = inr (normal-units (fin t (suc m) e) s n v (h (eqb-suc-zero m)))

-- ---- a pair: x is n units, and y is 2 ^ t times that
pub record Pair (t : ℕ) (x y : Float) : Type 0 where
  pub n : ℕ
  pub small : IsUnits x n
  pub large : IsUnits y (n * 2 ^ t)
  pub big : Big n

zero-round : round binary64 false 0 (2 ^ 1074) ≡ +0
unfolding round size units odd span climb count_trailing_zeros
zero-round = refl

zero-square : round binary64 false 0 (2 ^ 1074 * 2 ^ 1074) ≡ +0
unfolding round size units odd span climb count_trailing_zeros
zero-square = refl

plus-zero : (n : ℕ) → n ≡ 0 → IsUnits +0 n
plus-zero n e = subst (λ (k : ℕ). IsUnits +0 k) (sym e) (refl, refl)

pub zero-pair : (t : ℕ) (x y : Float) → x ≡ +0 → y ≡ +0 → Pair t x y
zero-pair t x y e f = record {
  n = 0;
  small = subst (λ (z : Float). IsUnits z 0) (sym e) (plus-zero 0 refl);
  large = subst (λ (z : Float). IsUnits z (0 * 2 ^ t)) (sym f) (plus-zero (0 * 2 ^ t) (zero-mul (2 ^ t)));
  big = inl refl;
}

-- a rounded fraction a / c, and 2 ^ t times it, in the normal range
pub of-rounded : (t a c : ℕ) (x y : Float) → 0 < c → 2 ^ 52 * c ≤ a * 2 ^ 1074 → x ≡ round binary64 false a c → y ≡ round binary64 false (a * 2 ^ t) c
    → T (finite x) → T (finite y) → ((n : ℕ) → IsUnits x n → Big n) → Pair t x y
of-rounded t a c x y C h e f u v b =
    let p = round-twos a c t C h (subst (λ (z : Float). T (finite z)) e u) (subst (λ (z : Float). T (finite z)) f v) in
    let q : IsUnits x (grid binary64 a c) = subst (λ (z : Float). IsUnits z (grid binary64 a c)) (sym e) p.0 in
    record { n = grid binary64 a c; small = q; large = subst (λ (z : Float). IsUnits z (grid binary64 a c * 2 ^ t)) (sym f) p.1; big = b (grid binary64 a c) q }

-- ---- squares
pub square-zero : (x : Float) (s : Bool) → HasValue x s 0 (2 ^ 1074) → x ⊗ x ≡ +0
square-zero x s v = square-is x s 0 v ∙ zero-square

-- an f64 whose square is in the normal range is 2 ^ -511 at least
pub normal-root : (x : Float) (s : Bool) (n : ℕ) → T (fits binary64 x) → HasValue x s n (2 ^ 1074) → T (is_normal (x ⊗ x)) → 2 ^ 563 ≤ n
normal-root x s n f v h =
    let e = square-is x s n v in
    let fin-x : T (finite (round binary64 false (n * n) (2 ^ 1074 * 2 ^ 1074))) = subst (λ (z : Float). T (finite z)) e (normal-finite (x ⊗ x) h) in
    root-range x s n f v fin-x
    (normal-units (x ⊗ x) false (grid binary64 (n * n) (2 ^ 1074 * 2 ^ 1074)) (subst (λ (z : Float). IsUnits z (grid binary64 (n * n) (2 ^ 1074 * 2 ^ 1074))) (sym e) (round-units false (n * n) (2 ^ 1074 * 2 ^ 1074) fin-x)) h)

pub square-pair : (t : ℕ) (x y : Float) (s : Bool) (n : ℕ) → T (fits binary64 x) → HasValue x s n (2 ^ 1074) → HasValue y s (n * 2 ^ t) (2 ^ 1074)
    → T (is_normal (x ⊗ x)) → T (is_normal (y ⊗ y)) → Pair (2 * t) (x ⊗ x) (y ⊗ y)
square-pair t x y s n f v w h k =
    let e = square-is x s n v in
    let r : 2 ^ 563 ≤ n = normal-root x s n f v h in
    of-rounded (2 * t) (n * n) (2 ^ 1074 * 2 ^ 1074) (x ⊗ x) (y ⊗ y) (mul-pos (pow_pos 1074) (pow_pos 1074)) (wide n r) e
    (square-is y s (n * 2 ^ t) w ∙ ap (λ (z : ℕ). round binary64 false z (2 ^ 1074 * 2 ^ 1074)) (mul-mul-mul_comm n (2 ^ t) n (2 ^ t) ∙ ap (λ (z : ℕ). n * n * z) (sym (pow-add 2 t t) ∙ ap (λ (z : ℕ). 2 ^ z) (twice t))))
    (normal-finite (x ⊗ x) h) (normal-finite (y ⊗ y) k) (λ m u. inr (normal-units (x ⊗ x) false m u h))
  where
    twice : (t : ℕ) → t + t ≡ 2 * t
    twice t = omega arith

    wide : (n : ℕ) → 2 ^ 563 ≤ n → 2 ^ 52 * (2 ^ 1074 * 2 ^ 1074) ≤ n * n * 2 ^ 1074
    wide n r = let h : 2 ^ 563 * 2 ^ 563 ≤ n * n = mul-le-mul r r in mul-le-mul_right (2 ^ 1074) h

-- ---- sums
enough : (n : ℕ) → 2 ^ 52 ≤ n → 2 ^ 52 * 2 ^ 1074 ≤ n * 2 ^ 1074
enough n h = mul-le-mul_right (2 ^ 1074) h

of-sum : (t a : ℕ) (x y : Float) → Big a → x ≡ round binary64 false a (2 ^ 1074) → y ≡ round binary64 false (a * 2 ^ t) (2 ^ 1074) → NormalOrZero x → NormalOrZero y → Pair t x y
of-sum t a x y (inl z) e f h k = zero-pair t x y (e ∙ ap (λ (n : ℕ). round binary64 false n (2 ^ 1074)) z ∙ zero-round) (f ∙ ap (λ (n : ℕ). round binary64 false n (2 ^ 1074)) (ap (λ (n : ℕ). n * 2 ^ t) z ∙ zero-mul (2 ^ t)) ∙ zero-round)
of-sum t a x y (inr b) e f h k = of-rounded t a (2 ^ 1074) x y (pow_pos 1074) (enough a b) e f (finite-of x h) (finite-of y k) (λ n u. big-of x false n u h)

first-pair : (t : ℕ) (p q : Float) → Pair t p q → NormalOrZero (-0 ⊕ p) → NormalOrZero (-0 ⊕ q) → Pair t (-0 ⊕ p) (-0 ⊕ q)
first-pair t p q b h k = of-sum t b.n (-0 ⊕ p) (-0 ⊕ q) b.big (sum_first p b.n b.small) (sum_first q (b.n * 2 ^ t) b.large) h k

sum-pair : (t : ℕ) (x y p q : Float) → Pair t x y → Pair t p q → NormalOrZero (x ⊕ p) → NormalOrZero (y ⊕ q) → Pair t (x ⊕ p) (y ⊕ q)
sum-pair t x y p q a b h k =
    of-sum t (a.n + b.n) (x ⊕ p) (y ⊕ q) (both a.n b.n a.big b.big) (sum_is x p a.n b.n a.small b.small)
    (sum_is y q (a.n * 2 ^ t) (b.n * 2 ^ t) a.large b.large ∙ ap (λ (z : ℕ). round binary64 false z (2 ^ 1074)) (sym (add-mul a.n b.n (2 ^ t)))) h k
  where
    both : (m n : ℕ) → Big m → Big n → Big (m + n)
    both m n (inl e) (inl f) = inl (omega arith)
    both m n (inl e) (inr g) = inr (omega arith)
    both m n (inr g) b = inr (omega arith)

pub sums-pair : (t : ℕ) (F G : ℕ → Float) (N : ℕ) → ((i : ℕ) → i ≤ N → Pair t (F i) (G i)) → ((i : ℕ) → i ≤ suc N → NormalOrZero (Σ i F)) → ((i : ℕ) → i ≤ suc N → NormalOrZero (Σ i G))
    → Pair t (Σ (suc N) F) (Σ (suc N) G)
unfolding Σ
sums-pair t F G zero p h k = first-pair t (F 0) (G 0) (p 0 (le_refl 0)) (h 1 (le_refl 1)) (k 1 (le_refl 1))
sums-pair t F G (suc N) p h k =
    sum-pair t (Σ (suc N) F) (Σ (suc N) G) (F (suc N)) (G (suc N)) (sums-pair t F G N (λ i l. p i (omega arith)) (λ i l. h i (omega arith)) (λ i l. k i (omega arith))) (p (suc N) (le_refl (suc N)))
    (h (suc (suc N)) (le_refl (suc (suc N)))) (k (suc (suc N)) (le_refl (suc (suc N))))

-- ---- roots
pub root-of-zero : (x : Float) → IsUnits x 0 → IsUnits (sqrt_of x) 0
unfolding sqrt_of
root-of-zero nan v = absurd v
root-of-zero (inf s) v = absurd v
root-of-zero (fin true m e) v = absurd (true≢false v.0)
root-of-zero (fin false zero e) v = v
root-of-zero (fin false (suc m) e) v = absurd (lt_irrefl 0 (subst (λ (k : ℕ). 0 < k) (v.1 ∙ zero-mul (down e)) (mul-pos (mul-pos (zero-lt-suc m) (up_pos e)) (pow_pos 1074))))

pub root-pair : (t : ℕ) (x y : Float) → Pair (2 * t) x y → (r : ℕ) × IsUnits (sqrt_of x) r × IsUnits (sqrt_of y) (r * 2 ^ t)
root-pair t x y p = ⊎_elim
    (λ (z : p.n ≡ 0). (
      0,
      root-of-zero x (subst (λ (k : ℕ). IsUnits x k) z p.small),
      subst (λ (k : ℕ). IsUnits (sqrt_of y) k) (sym (zero-mul (2 ^ t))) (root-of-zero y (subst (λ (k : ℕ). IsUnits y k) (ap (λ (k : ℕ). k * 2 ^ (2 * t)) z ∙ zero-mul (2 ^ (2 * t))) p.large)),
    ))
    (λ (h : 0 < p.n). (
      root_units p.n,
      subst (λ (z : Float). IsUnits z (root_units p.n)) (sym (sqrt-plus x p.n p.small h)) (root.root-value p.n),
      subst (λ (z : Float). IsUnits z (root_units p.n * 2 ^ t)) (sym (sqrt-plus y (p.n * 2 ^ (2 * t)) p.large (mul-pos h (pow_pos (2 * t))))) (root-twos p.n t h),
    ))
    (eq-zero-or-pos p.n)

pub sqrt-fits : (x : Float) → T (fits binary64 x) → T (fits binary64 (sqrt_of x))
unfolding sqrt_of
sqrt-fits nan f = nan-fits binary64
sqrt-fits (inf true) f = nan-fits binary64
sqrt-fits (inf false) f = f
sqrt-fits (fin s zero e) f = f
sqrt-fits (fin true (suc m) e) f = nan-fits binary64
sqrt-fits (fin false (suc m) e) f = (correctly-rounded m e f).is_f64
