-- The norm has the bits of the plain one where both ways stay in the normal range: `KeepsBits` of `specs/Claims.antt`.
use mathlib.Core.Path.{◌≡◌, refl, sym, ap, ap₂, ◌∙◌, subst}
use mathlib.Core.Logic.{◌⊎◌, inl, inr, ⊎_elim}
use mathlib.Core.List.{List}
use Prim.Native.Nat.{ℕ, zero, suc, ◌+◌, ◌-◌, ◌*◌, ◌^◌, ◌≤◌, ◌<◌}
use native.Mathlib.Nat.{le_trans, le_of_eq, lt_of_lt_of_le, lt_of_le_of_lt, lt_irrefl, zero-mul, mul_comm, mul_assoc, mul_left_comm, mul-le-mul, mul-le-mul_right, mul-pos}
use native.Mathlib.Omega.{arith}
use mathlib.Core.Bool.{Bool, true, false, not, cond}
use lib.Dec.{T, leb, eqb, leb→le, nleb→lt, eqb→eq, eqb-suc-zero}
use lib.Pow.{pow-add, pow_pos, pow_mono}
use lib.ListN.{length}
use lib.Ieee.{Float, nan, inf, fin, binary64, up, down, size, round, fits, le}
use lib.Ieee.Digits.{size-lt, size_reaches}
use lib.Ieee.Exact.{HasValue}
use lib.Ieee.Fits.{down_pos, add-fits}
use lib.Ieee.Order.{round_mono}
use lib.Ieee.Positive.{first_pos}
use lib.Ieee.Scale.{round_same, grid, finite}
use Rattle.norms.proofs.Bounds.{order, inf-over}
use Rattle.numbers.specs.Numbers.{+0, Σ, at, dot, ◌⊗◌}
use Rattle.numbers.specs.Rounded.{IsUnits}
use Rattle.numbers.specs.Root.{sqrt_of}
use Rattle.numbers.proofs.Lists.{length-tab, get_d-tab}
use Rattle.norms.specs.Norm.{plain_norm, scaled, largest, reduced, rescaled, norm}
use Rattle.norms.specs.Claims.{is_zero, NormalOrZero, InRange, KeepsBits}
use Rattle.norms.proofs.Units.{round-units, rounds-back, square-is}
use Rattle.norms.proofs.Pairs.{normal-finite, finite-of, Pair, zero-pair, square-zero, normal-root, square-pair, sums-pair, root-pair, sqrt-fits}
use Rattle.norms.proofs.Scaled.{some-units, magnitude-is, units_lt, scaled-is, entry-up, entry-split, below-largest, attained, no_nan, no-inf, zeros, root-zero, zero-units, scaled_fits, scaled-zero, over-square}

-- ---- the theorem
module _ (v : List Float) (some : 0 < length v) (fit : (i : ℕ) → i < length v → T (fits binary64 (at v i))) where
  abbrev N : ℕ
  N = length v

  abbrev most : ℕ
  most = largest (length v) v

  abbrev z : ℕ
  z = size (largest (length v) v)

  abbrev w : List Float
  w = reduced (size (largest (length v) v)) v

  pub length-w : length w ≡ length v
  unfolding reduced
  length-w = length-tab (length v) (λ i. scaled 1075 z (at v i))

  pub at-w : (i : ℕ) → i < length v → scaled 1075 z (at v i) ≡ at w i
  unfolding reduced
  at-w i l = sym (get_d-tab (length v) (λ i. scaled 1075 z (at v i)) nan i l)

  abbrev F : ℕ → Float
  F i = at v i ⊗ at v i

  abbrev G : ℕ → Float
  G i = at w i ⊗ at w i

  pub plain_norm-v : plain_norm v ≡ sqrt_of (Σ (length v) F)
  unfolding plain_norm dot
  plain_norm-v = refl

  pub plain_norm-w : plain_norm w ≡ sqrt_of (Σ (length v) G)
  unfolding plain_norm dot
  plain_norm-w = ap (λ (n : ℕ). sqrt_of (Σ n G)) length-w

  pub nonempty : length v ≡ suc (length v - 1)
  nonempty = pred (length v) some
    where
      pred : (n : ℕ) → 0 < n → n ≡ suc (n - 1)
      pred n h = omega arith

  fits-v : T (fits binary64 (plain_norm v))
  unfolding Σ
  fits-v = subst (λ (x : Float). T (fits binary64 x)) (sym plain_norm-v) (sqrt-fits (Σ (length v) F) (subst (λ (n : ℕ). T (fits binary64 (Σ n F))) (sym nonempty) (add-fits binary64 (Σ (length v - 1) F) (F (length v - 1)))))

  -- the root scaled back, where the sums are a pair
  pub up-back : (t : ℕ) → z + t ≡ 1075 → Pair (2 * t) (Σ (length v) F) (Σ (length v) G) → rescaled z v ≡ plain_norm v
  unfolding rescaled
  up-back t e p =
      let r = root-pair t (Σ (length v) F) (Σ (length v) G) p in
      let of-v : IsUnits (plain_norm v) r.0 = subst (λ (x : Float). IsUnits x r.0) (sym plain_norm-v) r.1 in
      let of-w : IsUnits (plain_norm w) (r.0 * 2 ^ t) = subst (λ (x : Float). IsUnits x (r.0 * 2 ^ t)) (sym plain_norm-w) r.2 in
      scaled-is z 1075 (plain_norm w) false (r.0 * 2 ^ t) of-w
      ∙ round_same binary64 false (r.0 * 2 ^ t * 2 ^ z) (2 ^ 1074 * 2 ^ 1075) r.0 (2 ^ 1074) (mul-pos (pow_pos 1074) (pow_pos 1075)) (pow_pos 1074)
      (ap (λ (k : ℕ). k * 2 ^ 1074) (mul_assoc r.0 (2 ^ t) (2 ^ z) ∙ ap (λ (k : ℕ). r.0 * k) (mul_comm (2 ^ t) (2 ^ z) ∙ sym (pow-add 2 z t) ∙ ap (λ (k : ℕ). 2 ^ k) e)) ∙ mul_assoc r.0 (2 ^ 1075) (2 ^ 1074) ∙ ap (λ (k : ℕ). r.0 * k) (mul_comm (2 ^ 1075) (2 ^ 1074)))
      ∙ rounds-back (plain_norm v) r.0 fits-v of-v (units_lt (plain_norm v) false r.0 fits-v of-v)

  pub down-back : (t : ℕ) → z ≡ 1075 + t → Pair (2 * t) (Σ (length v) G) (Σ (length v) F) → rescaled z v ≡ plain_norm v
  unfolding rescaled
  down-back t e p =
      let r = root-pair t (Σ (length v) G) (Σ (length v) F) p in
      let of-v : IsUnits (plain_norm v) (r.0 * 2 ^ t) = subst (λ (x : Float). IsUnits x (r.0 * 2 ^ t)) (sym plain_norm-v) r.2 in
      let of-w : IsUnits (plain_norm w) r.0 = subst (λ (x : Float). IsUnits x r.0) (sym plain_norm-w) r.1 in
      scaled-is z 1075 (plain_norm w) false r.0 of-w
      ∙ round_same binary64 false (r.0 * 2 ^ z) (2 ^ 1074 * 2 ^ 1075) (r.0 * 2 ^ t) (2 ^ 1074) (mul-pos (pow_pos 1074) (pow_pos 1075)) (pow_pos 1074)
      (ap (λ (k : ℕ). r.0 * k * 2 ^ 1074) (ap (λ (k : ℕ). 2 ^ k) e ∙ pow-add 2 1075 t) ∙ order r.0 (2 ^ 1075) (2 ^ t) (2 ^ 1074))
      ∙ rounds-back (plain_norm v) (r.0 * 2 ^ t) fits-v of-v (units_lt (plain_norm v) false (r.0 * 2 ^ t) fits-v of-v)
    where
      order : (r p q u : ℕ) → r * (p * q) * u ≡ r * q * (u * p)
      order r p q u = simp (mul_assoc, mul_comm, mul_left_comm)

  -- either way, by the number of digits
  pub by_digits : ((t : ℕ) → z + t ≡ 1075 → rescaled z v ≡ plain_norm v) → ((t : ℕ) → z ≡ 1075 + t → rescaled z v ≡ plain_norm v) → rescaled z v ≡ plain_norm v
  by_digits up down = go (leb z 1075) (leb→le z 1075) (nleb→lt z 1075)
    where
      go : (t : Bool) → (T t → z ≤ 1075) → (T (not t) → 1075 < z) → rescaled z v ≡ plain_norm v
      go true y n = up (1075 - z) (up_to z (y tt))
        where
          up_to : (z : ℕ) → z ≤ 1075 → z + (1075 - z) ≡ 1075
          up_to z h = omega arith
      go false y n = down (z - 1075) (down_to z (n tt))
        where
          down_to : (z : ℕ) → 1075 < z → z ≡ 1075 + (z - 1075)
          down_to z h = omega arith

  module _ (a : InRange v) (b : InRange w) where
    finite-at : (i : ℕ) → i < length v → T (finite (at v i))
    finite-at i l = finite-of (at v i) (a.entries i l)

    -- the entry's sign and units
    sign : (i : ℕ) → i < length v → Bool
    sign i l = (some-units (at v i) (fit i l) (finite-at i l)).0

    unit : (i : ℕ) → i < length v → ℕ
    unit i l = (some-units (at v i) (fit i l) (finite-at i l)).1

    value : (i : ℕ) (l : i < length v) → HasValue (at v i) (sign i l) (unit i l) (2 ^ 1074)
    unfolding sign unit
    value i l = (some-units (at v i) (fit i l) (finite-at i l)).2

    small : (i : ℕ) (l : i < length v) → unit i l < 2 ^ z
    small i l = lt_of_le_of_lt (le_trans (le_of_eq (sym (magnitude-is (at v i) (sign i l) (unit i l) (value i l)))) (below-largest (length v) v i l)) (size-lt most)

    -- zero or not
    which : (x : Float) → (is_zero x ≡ true) ⊎ (is_zero x ≡ false)
    which x = go (is_zero x)
      where
        go : (t : Bool) → (t ≡ true) ⊎ (t ≡ false)
        go true = inl refl
        go false = inr refl

    square-v-zero : (i : ℕ) (l : i < length v) → is_zero (at v i) ≡ true → F i ≡ +0
    square-v-zero i l h = square-zero (at v i) (sign i l) (subst (λ (n : ℕ). HasValue (at v i) (sign i l) n (2 ^ 1074)) (zero-units (at v i) (sign i l) (unit i l) (value i l) h) (value i l))

    square-w-zero : (i : ℕ) (l : i < length v) → is_zero (at v i) ≡ true → G i ≡ +0
    square-w-zero i l h =
        ap (λ (x : Float). x ⊗ x) (sym (at-w i l))
        ∙ square-zero (scaled 1075 z (at v i)) (sign i l) (scaled-zero 1075 z (at v i) (sign i l) (unit i l) (value i l) (zero-units (at v i) (sign i l) (unit i l) (value i l) h))

    in-w : (i : ℕ) → i < length v → i < length w
    in-w i l = lt_of_lt_of_le l (le_of_eq (sym length-w))

    -- a nonzero entry is 2 ^ -511 at least
    entry-ge : (i : ℕ) (l : i < length v) → is_zero (at v i) ≡ false → 2 ^ 563 ≤ unit i l
    entry-ge i l h = normal-root (at v i) (sign i l) (unit i l) (fit i l) (value i l) (a.squares i l h)

    -- so the scaled one is none of the zeros
    nonzero : (x : Float) (s : Bool) (n : ℕ) → HasValue x s n (2 ^ 1074) → 0 < n → is_zero x ≡ false
    nonzero nan s n v h = absurd v
    nonzero (inf t) s n v h = absurd v
    nonzero (fin t zero e) s n v h = absurd (lt_irrefl 0 (subst (λ (k : ℕ). 0 < k) (sym v.1 ∙ ap (λ (k : ℕ). k * 2 ^ 1074) (zero-mul (up e)) ∙ zero-mul (2 ^ 1074)) (mul-pos h (down_pos e))))
    nonzero (fin t (suc m) e) s n v h = eqb-suc-zero m

    up-pair : (t : ℕ) → z + t ≡ 1075 → (i : ℕ) (l : i < length v) → Pair (2 * t) (F i) (G i)
    up-pair t e i l = ⊎_elim
        (λ (h : is_zero (at v i) ≡ true). zero-pair (2 * t) (F i) (G i) (square-v-zero i l h) (square-w-zero i l h))
        (λ (h : is_zero (at v i) ≡ false).
        let y : HasValue (at w i) (sign i l) (unit i l * 2 ^ t) (2 ^ 1074) =
        subst (λ (x : Float). HasValue x (sign i l) (unit i l * 2 ^ t) (2 ^ 1074)) (at-w i l) (entry-up z t (at v i) (sign i l) (unit i l) e (fit i l) (value i l) (small i l)) in
        square-pair t (at v i) (at w i) (sign i l) (unit i l) (fit i l) (value i l) y (a.squares i l h)
        (b.squares i (in-w i l) (nonzero (at w i) (sign i l) (unit i l * 2 ^ t) y (mul-pos (lt_of_lt_of_le (pow_pos 563) (entry-ge i l h)) (pow_pos t)))))
        (which (at v i))

    -- the largest entry's square is finite
    z-le : z ≤ 1586
    z-le = ⊎_elim (λ (h : 1587 ≤ z). absurd (clash h)) (λ (h : z < 1587). below z h) (order 1587 z)
      where
        below : (z : ℕ) → z < 1587 → z ≤ 1586
        below z h = omega arith

        pred : (z : ℕ) → 1587 ≤ z → 1586 ≤ z - 1
        pred z h = omega arith

        less : (z : ℕ) → 1587 ≤ z → z - 1 < z
        less z h = omega arith

        clash : 1587 ≤ z → ⊥
        clash h =
            let ge : 2 ^ 1586 ≤ most = le_trans (pow_mono (pred z h)) (size_reaches most (z - 1) (less z h)) in
            let p = attained (length v) v (lt_of_lt_of_le (pow_pos 1586) ge) in
            let i = p.0 in
            let l = p.1 in
            let n = unit i l in
            let big : 2 ^ 1586 ≤ n = le_trans ge (le_of_eq (sym p.2 ∙ magnitude-is (at v i) (sign i l) n (value i l))) in
            let e = square-is (at v i) (sign i l) n (value i l) in
            let f = subst (λ (x : Float). T (finite x)) e (normal-finite (F i) (a.squares i l (nonzero (at v i) (sign i l) n (value i l) (lt_of_lt_of_le (pow_pos 1586) big)))) in
            inf-over (round binary64 false (n * n) (2 ^ 1074 * 2 ^ 1074)) (grid binary64 (n * n) (2 ^ 1074 * 2 ^ 1074)) (round-units false (n * n) (2 ^ 1074 * 2 ^ 1074) f)
            (subst (λ (x : Float). T (le x (round binary64 false (n * n) (2 ^ 1074 * 2 ^ 1074)))) over-square
            (round_mono binary64 (2 ^ 1586 * 2 ^ 1586) (2 ^ 1074 * 2 ^ 1074) (n * n) (2 ^ 1074 * 2 ^ 1074) (mul-pos (pow_pos 1074) (pow_pos 1074)) (mul-pos (pow_pos 1074) (pow_pos 1074)) (mul-le-mul_right (2 ^ 1074 * 2 ^ 1074) (mul-le-mul big big))))

    down-pair : (t : ℕ) → z ≡ 1075 + t → (i : ℕ) (l : i < length v) → Pair (2 * t) (G i) (F i)
    down-pair t e i l = ⊎_elim
        (λ (h : is_zero (at v i) ≡ true). zero-pair (2 * t) (G i) (F i) (square-w-zero i l h) (square-v-zero i l h))
        (λ (h : is_zero (at v i) ≡ false).
        let wide : 2 ^ 52 * 2 ^ t ≤ 2 ^ 563 = le_trans (le_of_eq (sym (pow-add 2 52 t))) (pow_mono (under z t e z-le)) in
        let d = entry-split z t (at v i) (sign i l) (unit i l) e (fit i l) (value i l) (le_trans wide (entry-ge i l h)) in
        let y : HasValue (at w i) (sign i l) d.0 (2 ^ 1074) = subst (λ (x : Float). HasValue x (sign i l) d.0 (2 ^ 1074)) (at-w i l) d.1 in
        let some : 0 < d.0 = first_pos d.0 (2 ^ t) (lt_of_lt_of_le (lt_of_lt_of_le (pow_pos 563) (entry-ge i l h)) (le_of_eq d.2)) in
        square-pair t (at w i) (at v i) (sign i l) d.0 (subst (λ (x : Float). T (fits binary64 x)) (at-w i l) (scaled_fits 1075 z (at v i))) y (subst (λ (n : ℕ). HasValue (at v i) (sign i l) n (2 ^ 1074)) d.2 (value i l))
        (b.squares i (in-w i l) (nonzero (at w i) (sign i l) d.0 y some)) (a.squares i l h))
        (which (at v i))
      where
        under : (z t : ℕ) → z ≡ 1075 + t → z ≤ 1586 → 52 + t ≤ 563
        under z t e h = omega arith

    sums-v : (i : ℕ) → i ≤ suc (length v - 1) → NormalOrZero (Σ i F)
    unfolding dot
    sums-v i l = a.sums i (le_trans l (le_of_eq (sym nonempty)))

    sums-w : (i : ℕ) → i ≤ suc (length v - 1) → NormalOrZero (Σ i G)
    unfolding dot
    sums-w i l = b.sums i (le_trans l (le_of_eq (sym nonempty ∙ sym length-w)))

    within : (i : ℕ) → i ≤ length v - 1 → i < length v
    within i l = omega (arith, some)

    back_is : rescaled z v ≡ plain_norm v
    back_is = by_digits
        (λ t e. up-back t e (subst (λ (n : ℕ). Pair (2 * t) (Σ n F) (Σ n G)) (sym nonempty) (sums-pair (2 * t) F G (length v - 1) (λ i l. up-pair t e i (within i l)) sums-v sums-w)))
        (λ t e. down-back t e (subst (λ (n : ℕ). Pair (2 * t) (Σ n G) (Σ n F)) (sym nonempty) (sums-pair (2 * t) G F (length v - 1) (λ i l. down-pair t e i (within i l)) sums-w sums-v)))

    -- zeros only
    all-zero : most ≡ 0 → plain_norm v ≡ +0
    all-zero e =
        plain_norm-v
        ∙ ap sqrt_of (subst (λ (n : ℕ). Σ n F ≡ +0) (sym nonempty) (zeros (length v - 1) F (λ i l. zero-square i (within i l))))
        ∙ root-zero
      where
        none : (n k : ℕ) → n ≤ k → k ≡ 0 → n ≡ 0
        none n k h e = omega arith

        zero-square : (i : ℕ) → i < length v → F i ≡ +0
        zero-square i l =
            square-zero (at v i) (sign i l)
            (subst (λ (n : ℕ). HasValue (at v i) (sign i l) n (2 ^ 1074))
            (none (unit i l) most (le_trans (le_of_eq (sym (magnitude-is (at v i) (sign i l) (unit i l) (value i l)))) (below-largest (length v) v i l)) e) (value i l))

    keeps : norm v ≡ plain_norm v
    unfolding norm
    keeps =
        ap₂ (λ (p q : Bool). cond p nan (cond q (inf false) (cond (eqb most 0) +0 (rescaled z v)))) (no_nan (length v) v finite-at) (no-inf (length v) v finite-at)
        ∙ go (eqb most 0) (eqb→eq most 0)
      where
        go : (t : Bool) → (T t → most ≡ 0) → cond t +0 (rescaled z v) ≡ plain_norm v
        go true h = sym (all-zero (h tt))
        go false h = back_is

pub keeps-bits : KeepsBits
keeps-bits v some fit a b = keeps v some fit a b
