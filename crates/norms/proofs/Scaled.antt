-- An entry in units of 2 ^ -1074, as it is and scaled, and the largest magnitude of a list.
use mathlib.Core.Path.{◌≡◌, refl, sym, ap, ap₂, ◌∙◌, subst}
use mathlib.Core.Logic.{◌⊎◌, inl, inr, ⊎_elim}
use mathlib.Core.List.{List}
use Prim.Native.Nat.{ℕ, zero, suc, ◌+◌, ◌-◌, ◌*◌, ◌/◌, ◌^◌, ◌≤◌, ◌<◌, max}
use native.Mathlib.Nat.{le_trans, le_of_eq, le_refl, lt_of_lt_of_le, lt_of_le_of_lt, lt_irrefl, eq-zero-or-pos, zero-mul, mul-one, mul_comm, mul_assoc, mul_right_comm, mul-mul-mul_comm, mul-le-mul_left, mul-le-mul_right, mul-lt-mul_of_pos_right, lt_of_mul-lt-mul_right, mul-pos, mul-div_cancel, not-suc-le-zero}
use native.Mathlib.Omega.{arith}
use mathlib.Core.Bool.{Bool, true, false, not, ◌||◌}
use lib.Dec.{T, leb, leb→le, nleb→lt, eqb→eq, lit≤}
use lib.Pow.{pow-add, pow_pos, pow_mono}
use lib.Ieee.{Float, nan, inf, fin, binary64, up, down, size, odd, units, span, climb, round, fits, is_nan, neg, add, sum}
use lib.Count.{count_trailing_zeros}
use lib.Ieee.Digits.{size-lt, size_reaches}
use lib.Ieee.Exact.{HasValue, round_exact}
use lib.Ieee.Fits.{down_pos, neg-fits, round-fits, nan-fits, inf-fits}
use lib.Ieee.Scale.{round_same, finite}
use Rattle.numbers.specs.Numbers.{+0, -0, Σ, at, ◌⊕◌}
use Rattle.numbers.specs.Root.{sqrt_of}
use Rattle.numbers.proofs.Cases.{last-or-before}
use Rattle.numbers.proofs.Correct.{all-in-units, under}
use Rattle.numbers.proofs.RootAt.{pow_lt_back}
use Rattle.norms.specs.Norm.{scaled, has_nan, has_inf, is_inf, magnitude, largest}
use Rattle.norms.specs.Claims.{is_zero, Brings}
use Rattle.norms.proofs.Units.{same-value, digits_of}

-- ---- an f64 that is finite, in units
pub some-units : (x : Float) → T (fits binary64 x) → T (finite x) → (s : Bool) × (n : ℕ) × HasValue x s n (2 ^ 1074)
unfolding neg
some-units nan f h = absurd h
some-units (inf s) f h = absurd h
some-units (fin false m e) f h = let u = all-in-units m e f in (false, u.0, (refl, u.1.1))
some-units (fin true m e) f h = let u = all-in-units m e (neg-fits binary64 (fin true m e) f) in (true, u.0, (refl, u.1.1))

pub magnitude-is : (x : Float) (s : Bool) (n : ℕ) → HasValue x s n (2 ^ 1074) → magnitude x ≡ n
magnitude-is nan s n v = absurd v
magnitude-is (inf t) s n v = absurd v
magnitude-is (fin t m e) s n v = ap (λ (z : ℕ). z / down e) v.1 ∙ mul-div_cancel n (down_pos e)

pub units_lt : (x : Float) (s : Bool) (n : ℕ) → T (fits binary64 x) → HasValue x s n (2 ^ 1074) → n < 2 ^ 2098
units_lt nan s n f v = absurd v
units_lt (inf t) s n f v = absurd v
units_lt (fin t zero e) s n f v = lt_of_mul-lt-mul_right (down e) (lt_of_le_of_lt (le_of_eq (sym v.1 ∙ ap (λ (k : ℕ). k * 2 ^ 1074) (zero-mul (up e)) ∙ zero-mul (2 ^ 1074))) (mul-pos (pow_pos 2098) (down_pos e)))
units_lt (fin t (suc m) e) s n f v =
    lt_of_mul-lt-mul_right (down e)
    (lt_of_le_of_lt (le_of_eq (sym v.1)) (lt_of_lt_of_le (mul-lt-mul_of_pos_right (under t m e f) (pow_pos 1074)) (le_of_eq (mul_right_comm (2 ^ 1024) (down e) (2 ^ 1074)))))

-- ---- an entry scaled
pub scaled-is : (p q : ℕ) (x : Float) (s : Bool) (n : ℕ) → HasValue x s n (2 ^ 1074) → scaled p q x ≡ round binary64 s (n * 2 ^ p) (2 ^ 1074 * 2 ^ q)
unfolding scaled
scaled-is p q nan s n v = absurd v
scaled-is p q (inf t) s n v = absurd v
scaled-is p q (fin t m e) s n v =
    ap (λ (t : Bool). round binary64 t (m * up e * 2 ^ p) (down e * 2 ^ q)) v.0
    ∙ round_same binary64 s (m * up e * 2 ^ p) (down e * 2 ^ q) (n * 2 ^ p) (2 ^ 1074 * 2 ^ q) (mul-pos (down_pos e) (pow_pos q)) (mul-pos (pow_pos 1074) (pow_pos q))
    (cross (m * up e) (down e) n (2 ^ 1074) (2 ^ p) (2 ^ q) v.1)
  where
    cross : (a d n u P Q : ℕ) → a * u ≡ n * d → a * P * (u * Q) ≡ n * P * (d * Q)
    cross a d n u P Q e =
        mul-mul-mul_comm a P u Q ∙ ap (λ (z : ℕ). z * (P * Q)) e ∙ mul-mul-mul_comm n d P Q

-- exactly, where what it comes to is an f64
pub scaled_exact : (p q : ℕ) (x : Float) (s : Bool) (n n' c i : ℕ) → HasValue x s n (2 ^ 1074) → n * 2 ^ p ≡ n' * 2 ^ q → c < 2 ^ 53 → n' ≡ c * 2 ^ i → n' < 2 ^ 2098
    → HasValue (scaled p q x) s n' (2 ^ 1074)
scaled_exact p q x s n n' c i v e few d l =
    subst (λ (z : Float). HasValue z s n' (2 ^ 1074)) (sym (scaled-is p q x s n v))
    (same-value (round binary64 s (n * 2 ^ p) (2 ^ 1074 * 2 ^ q)) s (n * 2 ^ p) (2 ^ 1074 * 2 ^ q) n' (2 ^ 1074) (mul-pos (pow_pos 1074) (pow_pos q)) units
    (round_exact binary64 s (n * 2 ^ p) (2 ^ 1074 * 2 ^ q) c i (mul-pos (pow_pos 1074) (pow_pos q)) few (lt_of_le_of_lt (le_of_eq (sym d)) l) (units ∙ ap (λ (z : ℕ). z * (2 ^ 1074 * 2 ^ q)) d)))
  where
    units : n * 2 ^ p * 2 ^ 1074 ≡ n' * (2 ^ 1074 * 2 ^ q)
    units = ap (λ (z : ℕ). z * 2 ^ 1074) e ∙ mul_assoc n' (2 ^ q) (2 ^ 1074) ∙ ap (λ (z : ℕ). n' * z) (mul_comm (2 ^ q) (2 ^ 1074))

-- up: z + t is 1075
pub entry-up : (z t : ℕ) (x : Float) (s : Bool) (n : ℕ) → z + t ≡ 1075 → T (fits binary64 x) → HasValue x s n (2 ^ 1074) → n < 2 ^ z → HasValue (scaled 1075 z x) s (n * 2 ^ t) (2 ^ 1074)
entry-up z t x s n e f v l =
    let u = digits_of x s n f v in
    let power : 2 ^ 1075 ≡ 2 ^ t * 2 ^ z = ap (λ (k : ℕ). 2 ^ k) (sym e) ∙ pow-add 2 z t ∙ mul_comm (2 ^ z) (2 ^ t) in
    scaled_exact 1075 z x s n (n * 2 ^ t) u.0 (u.1 + t) v (ap (λ (k : ℕ). n * k) power ∙ sym (mul_assoc n (2 ^ t) (2 ^ z))) u.2
    (ap (λ (k : ℕ). k * 2 ^ t) u.3 ∙ mul_assoc u.0 (2 ^ u.1) (2 ^ t) ∙ ap (λ (k : ℕ). u.0 * k) (sym (pow-add 2 u.1 t)))
    (lt_of_lt_of_le (mul-lt-mul_of_pos_right l (pow_pos t)) (le_trans (le_of_eq (sym (pow-add 2 z t) ∙ ap (λ (k : ℕ). 2 ^ k) e)) (pow_mono {i = 1075} {j = 2098} (lit≤ tt))))

-- down: z is 1075 + t, and x is 2 ^ (52 + t) units at least
pub entry-split : (z t : ℕ) (x : Float) (s : Bool) (n : ℕ) → z ≡ 1075 + t → T (fits binary64 x) → HasValue x s n (2 ^ 1074) → 2 ^ 52 * 2 ^ t ≤ n
    → (n' : ℕ) × HasValue (scaled 1075 z x) s n' (2 ^ 1074) × (n ≡ n' * 2 ^ t)
entry-split z t x s n e f v reach =
    let u = digits_of x s n f v in
    let power : 2 ^ z ≡ 2 ^ 1075 * 2 ^ t = ap (λ (k : ℕ). 2 ^ k) e ∙ pow-add 2 1075 t in
    let places : t ≤ u.1 = fewer t u.1 (pow_lt_back (52 + t) (53 + u.1)
    (lt_of_le_of_lt (le_trans (le_of_eq (pow-add 2 52 t)) (le_trans reach (le_of_eq u.3))) (lt_of_lt_of_le (mul-lt-mul_of_pos_right u.2 (pow_pos u.1)) (le_of_eq (sym (pow-add 2 53 u.1)))))) in
    let n' = u.0 * 2 ^ (u.1 - t) in
    let split : n ≡ n' * 2 ^ t = u.3 ∙ ap (λ (k : ℕ). u.0 * 2 ^ k) (back u.1 t places) ∙ ap (λ (k : ℕ). u.0 * k) (pow-add 2 (u.1 - t) t) ∙ sym (mul_assoc u.0 (2 ^ (u.1 - t)) (2 ^ t)) in (
      n',
      scaled_exact 1075 z x s n n' u.0 (u.1 - t) v
          (ap (λ (k : ℕ). k * 2 ^ 1075) split ∙ mul_assoc n' (2 ^ t) (2 ^ 1075) ∙ ap (λ (k : ℕ). n' * k) (mul_comm (2 ^ t) (2 ^ 1075) ∙ sym power)) u.2 refl
          (lt_of_le_of_lt (le_trans (le_of_eq (sym (mul-one n'))) (le_trans (mul-le-mul_left n' (pow_pos t)) (le_of_eq (sym split)))) (units_lt x s n f v)),
      split,
    )
  where
    fewer : (t i : ℕ) → 52 + t < 53 + i → t ≤ i
    fewer t i h = omega arith

    back : (i t : ℕ) → t ≤ i → i ≡ i - t + t
    back i t h = omega arith

-- ---- the entries of a list
pub le-max : (a b : ℕ) → (a ≤ max a b) × (b ≤ max a b)
le-max a b = (omega arith, omega arith)

pub below-largest : (n : ℕ) (v : List Float) (i : ℕ) → i < n → magnitude (at v i) ≤ largest n v
unfolding largest
below-largest zero v i h = absurd (not-suc-le-zero h)
below-largest (suc n) v i h = elim (last-or-before n i h) [
  | inl e ↦ subst (λ (k : ℕ). magnitude (at v k) ≤ max (largest n v) (magnitude (at v n))) (sym e) (le-max (largest n v) (magnitude (at v n))).1
  | inr l ↦ le_trans (below-largest n v i l) (le-max (largest n v) (magnitude (at v n))).0
]

pub max-is : (a b : ℕ) → ((a ≤ b) × (max a b ≡ b)) ⊎ ((b ≤ a) × (max a b ≡ a))
max-is a b = go (leb a b) (leb→le a b) (nleb→lt a b)
  where
    go : (t : Bool) → (T t → a ≤ b) → (T (not t) → b < a) → ((a ≤ b) × (max a b ≡ b)) ⊎ ((b ≤ a) × (max a b ≡ a))
    go true y n = let h = y tt in inl (h, omega arith)
    go false y n = let h = n tt in inr (omega arith, omega arith)

-- the largest magnitude is that of some entry
pub attained : (n : ℕ) (v : List Float) → 0 < largest n v → (i : ℕ) × (i < n) × (magnitude (at v i) ≡ largest n v)
unfolding largest
attained zero v h = absurd (lt_irrefl 0 h)
attained (suc n) v h = elim (max-is (largest n v) (magnitude (at v n))) [
  | inl k ↦ (n, (let z : n < suc n = omega arith in z), sym k.1)
  | inr k ↦ (let p = attained n v (subst (λ (x : ℕ). 0 < x) k.1 h) in (p.0, (let z = p.1 in let y : p.0 < suc n = omega (arith, z) in y), p.2 ∙ sym k.1))
]

pub brings : Brings
brings n v h =
    let most = largest n v in
    let z = size most in
    let ge : 2 ^ (z - 1) ≤ most = size_reaches most (z - 1) (pred z (some-digit most h)) in
    (le_trans (le_of_eq (down z (some-digit most h))) (mul-le-mul_right (2 ^ 1075) ge), lt_of_lt_of_le (mul-lt-mul_of_pos_right (size-lt most) (pow_pos 1075)) (le_of_eq (mul_comm (2 ^ z) (2 ^ 1075))))
  where
    pred : (z : ℕ) → 0 < z → z - 1 < z
    pred z h = omega arith

    some-digit : (n : ℕ) → 0 < n → 0 < size n
    some-digit n h = pow_lt_back 0 (size n) (lt_of_le_of_lt h (size-lt n))

    down : (z : ℕ) → 0 < z → 2 ^ 1074 * 2 ^ z ≡ 2 ^ (z - 1) * 2 ^ 1075
    down z h = sym (pow-add 2 1074 z) ∙ ap (λ (k : ℕ). 2 ^ k) (let e : 1074 + z ≡ z - 1 + 1075 = omega arith in e) ∙ pow-add 2 (z - 1) 1075

-- none is a NaN or an infinity
pub finite-no-nan : (x : Float) → T (finite x) → is_nan x ≡ false
unfolding is_nan
finite-no-nan nan h = absurd h
finite-no-nan (inf s) h = absurd h
finite-no-nan (fin s m e) h = refl

pub finite-no-inf : (x : Float) → T (finite x) → is_inf x ≡ false
finite-no-inf nan h = absurd h
finite-no-inf (inf s) h = absurd h
finite-no-inf (fin s m e) h = refl

pub no_nan : (n : ℕ) (v : List Float) → ((i : ℕ) → i < n → T (finite (at v i))) → has_nan n v ≡ false
unfolding has_nan
no_nan zero v h = refl
no_nan (suc n) v h = ap₂ ◌||◌ (no_nan n v (λ i l. h i (omega arith))) (finite-no-nan (at v n) (h n (omega arith)))

pub no-inf : (n : ℕ) (v : List Float) → ((i : ℕ) → i < n → T (finite (at v i))) → has_inf n v ≡ false
unfolding has_inf
no-inf zero v h = refl
no-inf (suc n) v h = ap₂ ◌||◌ (no-inf n v (λ i l. h i (omega arith))) (finite-no-inf (at v n) (h n (omega arith)))

-- a list with zeros only has the norm +0, unless it is empty
pub first-zero : -0 ⊕ +0 ≡ +0
unfolding add sum round size units odd span climb count_trailing_zeros
first-zero = refl

pub next-zero : +0 ⊕ +0 ≡ +0
unfolding add sum round size units odd span climb count_trailing_zeros
next-zero = refl

pub zeros : (N : ℕ) (F : ℕ → Float) → ((i : ℕ) → i ≤ N → F i ≡ +0) → Σ (suc N) F ≡ +0
unfolding Σ
zeros zero F h = ap (λ (x : Float). -0 ⊕ x) (h 0 (le_refl 0)) ∙ first-zero
zeros (suc N) F h = ap₂ ◌⊕◌ (zeros N F (λ i l. h i (omega arith))) (h (suc N) (le_refl (suc N))) ∙ next-zero

pub root-zero : sqrt_of +0 ≡ +0
unfolding sqrt_of
root-zero = refl

-- a zero in units
pub zero-units : (x : Float) (s : Bool) (n : ℕ) → HasValue x s n (2 ^ 1074) → is_zero x ≡ true → n ≡ 0
zero-units nan s n v h = absurd v
zero-units (inf t) s n v h = absurd v
zero-units (fin t m e) s n v h =
    let z : m ≡ 0 = eqb→eq m 0 (subst T (sym h) tt) in
    ⊎_elim (λ (q : n ≡ 0). q)
    (λ (p : 0 < n). absurd (lt_irrefl 0 (subst (λ (k : ℕ). 0 < k) (sym v.1 ∙ ap (λ (k : ℕ). k * up e * 2 ^ 1074) z ∙ ap (λ (k : ℕ). k * 2 ^ 1074) (zero-mul (up e)) ∙ zero-mul (2 ^ 1074)) (mul-pos p (down_pos e)))))
    (eq-zero-or-pos n)

pub scaled_fits : (p q : ℕ) (x : Float) → T (fits binary64 (scaled p q x))
unfolding scaled
scaled_fits p q nan = nan-fits binary64
scaled_fits p q (inf s) = inf-fits binary64 s
scaled_fits p q (fin s m e) = round-fits binary64 s (m * up e * 2 ^ p) (down e * 2 ^ q)

-- zero scaled
pub scaled-zero : (p q : ℕ) (x : Float) (s : Bool) (n : ℕ) → HasValue x s n (2 ^ 1074) → n ≡ 0 → HasValue (scaled p q x) s 0 (2 ^ 1074)
scaled-zero p q x s n v e = scaled_exact p q x s n 0 0 0 v (ap (λ (k : ℕ). k * 2 ^ p) e ∙ zero-mul (2 ^ p) ∙ sym (zero-mul (2 ^ q))) (pow_pos 53) refl (pow_pos 2098)

pub over-square : round binary64 false (2 ^ 1586 * 2 ^ 1586) (2 ^ 1074 * 2 ^ 1074) ≡ inf false
unfolding round size units odd span climb count_trailing_zeros
over-square = refl
