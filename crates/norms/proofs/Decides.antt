-- A sum of at most 18 squares that is not small decides the norm alone: `SumDecides` and `SumBounds` of `specs/inner/Sums.antt`.
use mathlib.Core.Path.{◌≡◌, refl, sym, ap, ap₂, ◌∙◌, subst}
use mathlib.Core.Logic.{◌⊎◌, inl, inr, ⊎_elim}
use mathlib.Core.List.{List}
use Prim.Native.Nat.{ℕ, suc, ◌+◌, ◌-◌, ◌*◌, ◌^◌, ◌≤◌, ◌<◌, zero-le}
use native.Mathlib.Nat.{le_trans, le_of_eq, le_of_lt, lt_of_lt_of_le, lt_of_le_of_lt, not-le_of_lt, zero-lt-suc, mul_comm, mul_assoc, mul_right_comm, mul-le-mul, mul-le-mul_right, le_of_mul-le-mul_right, mul-pos, zero-add, zero-mul, one-mul, eq_of_mul-eq-mul_right}
use native.Mathlib.Omega.{arith}
use mathlib.Core.Bool.{Bool, true, false, cond}
use lib.Dec.{T, eqb, lit≤}
use lib.Pow.{pow-add, pow_pos, pow_mono, pow-lt}
use lib.Count.{count_trailing_zeros}
use lib.ListN.{length}
use lib.Ieee.{Float, nan, inf, fin, binary64, up, down, minus, size, odd, round, fits, le, lt, eq, of_bits, of_fields}
use lib.Ieee.Digits.{size-lt, size_reaches}
use lib.Ieee.Exact.{HasValue}
use lib.Ieee.Fits.{mul-fits, down_pos}
use lib.Ieee.Bits.{is_true}
use lib.Ieee.Order.{round_mono, le_of_values}
use lib.Ieee.Positive.{above, above_of_le, positive_of_value}
use lib.Ieee.Digits.{minus_val}
use lib.Ieee.Scale.{grid, finite}
use Rattle.numbers.specs.Numbers.{+0, Σ, at, dot, ◌⊗◌}
use Rattle.numbers.specs.Rounded.{IsUnits}
use Rattle.numbers.specs.Root.{sqrt_of}
use Rattle.numbers.proofs.Correct.{same_units}
use Rattle.norms.specs.Norm.{plain_norm, magnitude, largest, reduced, rescaled, norm}
use Rattle.norms.specs.inner.Sums.{least_sum, faint_sum, most_sum, faint_norm, SumDecides, SumBounds}
use Rattle.norms.proofs.Units.{round-units, square-is}
use Rattle.norms.proofs.Pairs.{Pair}
use Rattle.norms.proofs.Scaled.{some-units, magnitude-is, scaled-is, entry-up, entry-split, below-largest, attained, no_nan, no-inf}
use Rattle.norms.proofs.Keeps.{at-w, plain_norm-w, nonempty, up-back, down-back, by_digits}
use Rattle.norms.proofs.Answers.{no_zero}
use Rattle.norms.proofs.Bounds.{order, inf-over, units-le, round-upper}
use Rattle.norms.proofs.Chain.{Run, Alike, Low, of_pair, to-pair, run-sums, sums-under, sums-over, add-finite, square-finite, sums-finite}
use Rattle.norms.proofs.Squares.{between-finite, zero-finite, has-finite, scaled-upper, square-upper, square-lower, square_le, tiny-square, square-good, over-square, not-less-units, root-under, low-units}

-- ---- the law
module _ (v : List Float) (some : 0 < length v) (few : length v ≤ 18) (fit : (i : ℕ) → i < length v → T (fits binary64 (at v i))) (total : T (finite (dot (length v) v v))) where
  abbrev z : ℕ
  z = size (largest (length v) v)

  abbrev w : List Float
  w = reduced (size (largest (length v) v)) v

  abbrev F : ℕ → Float
  F i = at v i ⊗ at v i

  abbrev G : ℕ → Float
  G i = at w i ⊗ at w i

  abbrev M : ℕ
  M = length v - 1

  M-le : M ≤ 17
  M-le = omega arith

  is_sum : dot (length v) v v ≡ Σ (suc M) F
  unfolding dot
  is_sum = ap (λ (n : ℕ). Σ n F) (nonempty v some fit)

  sum-finite : T (finite (Σ (suc M) F))
  sum-finite = subst (λ (x : Float). T (finite x)) is_sum total

  inside : (i : ℕ) → i ≤ M → i < length v
  inside i l = omega (arith, some)

  outside : (i : ℕ) → i < length v → i ≤ M
  outside i l = omega arith

  finite-sum : (i : ℕ) → i ≤ M → T (finite (Σ (suc i) F))
  finite-sum i l = sums-finite F (suc M) sum-finite (suc i) (omega arith)

  finite-F : (i : ℕ) → i ≤ M → T (finite (F i))
  unfolding Σ
  finite-F i l = (add-finite (Σ i F) (F i) (finite-sum i l)).1

  finite-at : (i : ℕ) → i ≤ M → T (finite (at v i))
  finite-at i l = square-finite (at v i) (finite-F i l)

  sign : (i : ℕ) → i ≤ M → Bool
  sign i l = (some-units (at v i) (fit i (inside i l)) (finite-at i l)).0

  unit : (i : ℕ) → i ≤ M → ℕ
  unit i l = (some-units (at v i) (fit i (inside i l)) (finite-at i l)).1

  value : (i : ℕ) (l : i ≤ M) → HasValue (at v i) (sign i l) (unit i l) (2 ^ 1074)
  unfolding sign unit
  value i l = (some-units (at v i) (fit i (inside i l)) (finite-at i l)).2

  is-magnitude : (i : ℕ) (l : i ≤ M) → magnitude (at v i) ≡ unit i l
  is-magnitude i l = magnitude-is (at v i) (sign i l) (unit i l) (value i l)

  small : (i : ℕ) (l : i ≤ M) → unit i l < 2 ^ z
  small i l = lt_of_le_of_lt (le_trans (le_of_eq (sym (is-magnitude i l))) (below-largest (length v) v i (inside i l))) (size-lt (largest (length v) v))

  -- an entry scaled is at most 2, and its square at most 4
  entry-w : (i : ℕ) (l : i ≤ M) → (g : ℕ) × HasValue (at w i) (sign i l) g (2 ^ 1074) × (g ≤ 2 ^ 1075)
  entry-w i l =
      let p = scaled-upper z 1075 (at v i) (sign i l) (unit i l) (lit≤ tt) (value i l) (le_trans (mul-le-mul_right (2 ^ 1075) (le_of_lt (small i l))) (le_of_eq (mul_comm (2 ^ z) (2 ^ 1075)))) in
      (p.0, subst (λ (x : Float). HasValue x (sign i l) p.0 (2 ^ 1074)) (at-w v some fit i (inside i l)) p.1, p.2)

  square-w : (i : ℕ) → i ≤ M → (b : ℕ) × IsUnits (G i) b × (b ≤ 2 ^ 1076)
  square-w i l = let p = entry-w i l in square-upper 1076 (at w i) (sign i l) p.0 (lit≤ tt) p.1 (square_le p.0 (2 ^ 1075) p.2)

  finite-G : (i : ℕ) → i ≤ M → T (finite (G i))
  finite-G i l = let p = square-w i l in has-finite (G i) false p.0 p.1

  finite-sum-w : (i : ℕ) → i ≤ M → T (finite (Σ (suc i) G))
  finite-sum-w i l =
      let p = sums-under 1076 G i (room i l M-le) (λ j k. square-w j (le_trans k l)) in has-finite (Σ (suc i) G) false p.0 p.1
    where
      room : (i : ℕ) → i ≤ M → M ≤ 17 → 1076 + i < 2098
      room i l k = omega (arith, l, k)

  fits-F : (i : ℕ) → T (fits binary64 (F i))
  fits-F i = mul-fits binary64 (at v i) (at v i)

  fits-G : (i : ℕ) → T (fits binary64 (G i))
  fits-G i = mul-fits binary64 (at w i) (at w i)

  -- ---- the largest entry
  most-ge : 0 < z → 2 ^ (z - 1) ≤ largest (length v) v
  most-ge h = size_reaches (largest (length v) v) (z - 1) (pred z h)
    where
      pred : (z : ℕ) → 0 < z → z - 1 < z
      pred z h = omega arith

  most_pos : 0 < z → 0 < largest (length v) v
  most_pos h = lt_of_lt_of_le (pow_pos (z - 1)) (most-ge h)

  top_of : 0 < z → (i : ℕ) × (l : i ≤ M) × (2 ^ (z - 1) ≤ unit i l)
  top_of h =
      let p = attained (length v) v (most_pos h) in
      let l = outside p.0 p.1 in
      (p.0, l, le_trans (most-ge h) (le_of_eq (sym p.2 ∙ is-magnitude p.0 l)))

  -- neither a NaN nor an infinity
  finite-norm : norm v ≡ cond (eqb (largest (length v) v) 0) +0 (rescaled z v)
  unfolding norm
  finite-norm =
      ap₂ (λ (p q : Bool). cond p nan (cond q (inf false) (cond (eqb (largest (length v) v) 0) +0 (rescaled z v)))) (no_nan (length v) v (λ i l. finite-at i (outside i l))) (no-inf (length v) v (λ i l. finite-at i (outside i l)))

  -- ---- a sum that is small
  module _ (hi : T (le (Σ (suc M) F) faint_sum)) where
    z-small : z ≤ 1035
    z-small = ⊎_elim (λ (h : 1036 ≤ z). absurd (clash h)) (λ (h : z < 1036). below z h) (order 1036 z)
      where
        below : (z : ℕ) → z < 1036 → z ≤ 1035
        below z h = omega arith

        pred : (z : ℕ) → 1036 ≤ z → 1035 ≤ z - 1
        pred z h = omega arith

        clash : 1036 ≤ z → ⊥
        clash h =
            let p = top_of (lt_of_lt_of_le (zero-lt-suc 1035) h) in
            let ge : 2 ^ 1035 ≤ unit p.0 p.1 = le_trans (pow_mono (pred z h)) p.2 in
            let s = sums-over 996 F M (lit≤ tt) (λ i l. square-v i l) finite-sum p.0 p.1 (square-lower 996 (at v p.0) (sign p.0 p.1) (unit p.0 p.1) (lit≤ tt) (value p.0 p.1) (square_le (2 ^ 1035) (unit p.0 p.1) ge)) in
            not-le_of_lt (lt_of_lt_of_le (lit≤ {m = suc (2 ^ 994)} {n = 2 ^ 996} tt) s.2) (units-le (Σ (suc M) F) faint_sum s.0 (2 ^ 994) s.1 low-units hi)
          where
            square-v : (i : ℕ) → i ≤ M → (b : ℕ) × IsUnits (F i) b
            square-v i l =
                let e = square-is (at v i) (sign i l) (unit i l) (value i l) in
                let U = 2 ^ 1074 * 2 ^ 1074 in
                (grid binary64 (unit i l * unit i l) (2 ^ 1074 * 2 ^ 1074), subst (λ (x : Float). IsUnits x (grid binary64 (unit i l * unit i l) (2 ^ 1074 * 2 ^ 1074))) (sym e) (round-units false (unit i l * unit i l) (2 ^ 1074 * 2 ^ 1074) (subst (λ (x : Float). T (finite x)) e (finite-F i l))))

    rescaled-small : (b : ℕ) × IsUnits (rescaled z v) b × (b ≤ 2 ^ 1044)
    unfolding rescaled
    rescaled-small =
        let s = sums-under 1076 G M (room M M-le) square-w in
        let r = root-under (Σ (suc M) G) s.0 s.1 (le_trans s.2 (pow_mono (flat M M-le))) in
        let e : plain_norm w ≡ sqrt_of (Σ (suc M) G) = plain_norm-w v some fit ∙ ap (λ (n : ℕ). sqrt_of (Σ n G)) (nonempty v some fit) in
        let of-w : IsUnits (plain_norm w) r.0 = subst (λ (x : Float). IsUnits x r.0) (sym e) r.1 in
        let p = round-upper (r.0 * 2 ^ z) (2 ^ 1074 * 2 ^ 1075) 1044 (mul-pos (pow_pos 1074) (pow_pos 1075)) (lit≤ tt) (le_trans (mul-le-mul_right (2 ^ 1074) (mul-le-mul r.2 (pow_mono z-small))) (lit≤ {m = 2 ^ 1084 * 2 ^ 1035 * 2 ^ 1074} {n = 2 ^ 1044 * (2 ^ 1074 * 2 ^ 1075)} tt)) in
        (grid binary64 (r.0 * 2 ^ z) (2 ^ 1074 * 2 ^ 1075), subst (λ (x : Float). IsUnits x (grid binary64 (r.0 * 2 ^ z) (2 ^ 1074 * 2 ^ 1075))) (sym (scaled-is z 1075 (plain_norm w) false r.0 of-w)) (round-units false (r.0 * 2 ^ z) (2 ^ 1074 * 2 ^ 1075) p.0), p.1)
      where
        room : (M : ℕ) → M ≤ 17 → 1076 + M < 2098
        room M h = omega arith

        flat : (M : ℕ) → M ≤ 17 → 1076 + M ≤ 1094
        flat M h = omega arith

    bounds : lt faint_norm (norm v) ≡ false
    bounds = ap (lt faint_norm) finite-norm ∙ go (eqb (largest (length v) v) 0)
      where
        go : (t : Bool) → lt faint_norm (cond t +0 (rescaled z v)) ≡ false
        go true = not-less-units faint_norm +0 (2 ^ 1044) 0 (refl, refl) (refl, refl) zero-le
        go false = let p = rescaled-small in not-less-units faint_norm (rescaled z v) (2 ^ 1044) p.0 (refl, refl) p.1 p.2

  -- ---- a sum that is not small
  module _ (f : Float) (f-units : IsUnits f (2 ^ (55 * suc M - 1))) (low_sum : T (le f (Σ (suc M) F))) where
    -- ---- the number of digits
    z-ge : 521 ≤ z
    z-ge = ⊎_elim (λ (h : 521 ≤ z). h) (λ (h : z < 521). absurd (clash h)) (order 521 z)
      where
        clash : z < 521 → ⊥
        clash h =
            let p = sums-under 0 F M (room M M-le) (λ i l.
            square-upper 0 (at v i) (sign i l) (unit i l) (lit≤ tt) (value i l)
            (le_trans (square_le (unit i l) (2 ^ 520) (le_trans (le_of_lt (small i l)) (pow_mono (under z h)))) (lit≤ tt))) in
            not-le_of_lt (lt_of_le_of_lt p.2 (pow-lt (flat M))) (units-le f (Σ (suc M) F) (2 ^ (55 * suc M - 1)) p.0 f-units p.1 low_sum)
          where
            room : (M : ℕ) → M ≤ 17 → 0 + M < 2098
            room M h = omega arith

            flat : (M : ℕ) → 0 + M < 55 * suc M - 1
            flat M = omega arith

            under : (z : ℕ) → z < 521 → z ≤ 520
            under z h = omega arith

    z-pos : 0 < z
    z-pos = lt_of_lt_of_le (zero-lt-suc 520) z-ge

    abbrev top : ℕ
    top = (top_of z-pos).0

    abbrev top-le : top ≤ M
    top-le = (top_of z-pos).1

    top-ge : 2 ^ (z - 1) ≤ unit top top-le
    top-ge = (top_of z-pos).2

    z-le : z ≤ 1629
    z-le = ⊎_elim (λ (h : 1630 ≤ z). absurd (clash h)) (λ (h : z < 1630). below z h) (order 1630 z)
      where
        below : (z : ℕ) → z < 1630 → z ≤ 1629
        below z h = omega arith

        pred : (z : ℕ) → 1630 ≤ z → 1629 ≤ z - 1
        pred z h = omega arith

        clash : 1630 ≤ z → ⊥
        clash h =
            let n = unit top top-le in
            let ge : 2 ^ 1629 ≤ n = le_trans (pow_mono (pred z h)) top-ge in
            let e = square-is (at v top) (sign top top-le) n (value top top-le) in
            let f = subst (λ (x : Float). T (finite x)) e (finite-F top top-le) in
            inf-over (round binary64 false (n * n) (2 ^ 1074 * 2 ^ 1074)) (grid binary64 (n * n) (2 ^ 1074 * 2 ^ 1074)) (round-units false (n * n) (2 ^ 1074 * 2 ^ 1074) f)
            (subst (λ (x : Float). T (le x (round binary64 false (n * n) (2 ^ 1074 * 2 ^ 1074)))) over-square
            (round_mono binary64 (2 ^ 1629 * 2 ^ 1629) (2 ^ 1074 * 2 ^ 1074) (n * n) (2 ^ 1074 * 2 ^ 1074) (mul-pos (pow_pos 1074) (pow_pos 1074)) (mul-pos (pow_pos 1074) (pow_pos 1074)) (mul-le-mul_right (2 ^ 1074 * 2 ^ 1074) (mul-le-mul ge ge))))

    -- ---- the terms of both ways
    up_run : (t : ℕ) → z + t ≡ 1075 → t ≤ 554 → (i : ℕ) → i ≤ M → Run (2 * t) 53 (F i) (G i)
    up_run t e k i l =
        let s = sign i l in
        let n = unit i l in
        let y : HasValue (at w i) s (n * 2 ^ t) (2 ^ 1074) = subst (λ (x : Float). HasValue x s (n * 2 ^ t) (2 ^ 1074)) (at-w v some fit i (inside i l)) (entry-up z t (at v i) s n e (fit i (inside i l)) (value i l) (small i l)) in
        ⊎_elim
        (λ (h : 2 ^ 563 ≤ n). of_pair (2 * t) 53 (F i) (G i) (square-good t (at v i) (at w i) s n (value i l) y h (finite-F i l) (finite-G i l)))
        (λ (h : n < 2 ^ 563).
        let p = square-upper 52 (at v i) s n (lit≤ tt) (value i l) (square_le n (2 ^ 563) (le_of_lt h)) in
        let q = square-upper (52 + 2 * t) (at w i) s (n * 2 ^ t) (room t k) y (tiny-square t (n * 2 ^ t) (mul-le-mul_right (2 ^ t) (le_of_lt h))) in
        record { a = p.0; b = q.0; small = p.1; large = q.1; kind = inr (le_trans p.2 (lit≤ tt), le_trans q.2 (wide t)) })
        (order (2 ^ 563) n)
      where
        room : (t : ℕ) → t ≤ 554 → 52 + 2 * t < 2098
        room t k = omega arith

        wide : (t : ℕ) → 2 ^ (52 + 2 * t) ≤ 2 ^ 53 * 2 ^ (2 * t)
        wide t = le_trans (le_of_eq (pow-add 2 52 (2 * t))) (mul-le-mul_right (2 ^ (2 * t)) (lit≤ {m = 2 ^ 52} {n = 2 ^ 53} tt))

    down_run : (t : ℕ) → z ≡ 1075 + t → t ≤ 554 → (i : ℕ) → i ≤ M → Run (2 * t) 53 (G i) (F i)
    down_run t e k i l =
        let s = sign i l in
        let n = unit i l in
        ⊎_elim
        (λ (h : 2 ^ 563 * 2 ^ t ≤ n).
        let d = entry-split z t (at v i) s n e (fit i (inside i l)) (value i l) (le_trans (mul-le-mul_right (2 ^ t) (lit≤ {m = 2 ^ 52} {n = 2 ^ 563} tt)) h) in
        of_pair (2 * t) 53 (G i) (F i)
        (square-good t (at w i) (at v i) s d.0 (subst (λ (x : Float). HasValue x s d.0 (2 ^ 1074)) (at-w v some fit i (inside i l)) d.1) (subst (λ (n : ℕ). HasValue (at v i) s n (2 ^ 1074)) d.2 (value i l))
        (le_of_mul-le-mul_right (le_trans h (le_of_eq d.2)) (pow_pos t)) (finite-G i l) (finite-F i l)))
        (λ (h : n < 2 ^ 563 * 2 ^ t).
        let g = scaled-upper z 563 (at v i) s n (lit≤ tt) (value i l) (le_trans (mul-le-mul_right (2 ^ 1075) (le_of_lt h)) (le_of_eq (mul_assoc (2 ^ 563) (2 ^ t) (2 ^ 1075) ∙ ap (λ (k : ℕ). 2 ^ 563 * k) (mul_comm (2 ^ t) (2 ^ 1075) ∙ sym (pow-add 2 1075 t) ∙ ap (λ (k : ℕ). 2 ^ k) (sym e))))) in
        let p = square-upper 52 (at w i) s g.0 (lit≤ tt) (subst (λ (x : Float). HasValue x s g.0 (2 ^ 1074)) (at-w v some fit i (inside i l)) g.1) (square_le g.0 (2 ^ 563) g.2) in
        let q = square-upper (52 + 2 * t) (at v i) s n (room t k) (value i l) (tiny-square t n (le_of_lt h)) in
        record { a = p.0; b = q.0; small = p.1; large = q.1; kind = inr (le_trans p.2 (lit≤ tt), le_trans q.2 (wide t)) })
        (order (2 ^ 563 * 2 ^ t) n)
      where
        room : (t : ℕ) → t ≤ 554 → 52 + 2 * t < 2098
        room t k = omega arith

        wide : (t : ℕ) → 2 ^ (52 + 2 * t) ≤ 2 ^ 53 * 2 ^ (2 * t)
        wide t = le_trans (le_of_eq (pow-add 2 52 (2 * t))) (mul-le-mul_right (2 ^ (2 * t)) (lit≤ {m = 2 ^ 52} {n = 2 ^ 53} tt))

    enough : (t : ℕ) → t ≤ 554 → 53 + 55 * M + 2 * t < 2098
    enough t k = room M t M-le k
      where
        room : (M t : ℕ) → M ≤ 17 → t ≤ 554 → 53 + 55 * M + 2 * t < 2098
        room M t h k = omega arith

    -- a sum that is not low
    to-alike : (t E : ℕ) (x y : Float) → 53 + 55 * M < E → (r : Run (2 * t) (53 + 55 * M) x y) → 2 ^ E ≤ r.a → Pair (2 * t) x y
    to-alike t E x y big r h = go r.kind
      where
        go : Alike (2 * t) r.a r.b ⊎ Low (2 * t) (53 + 55 * M) r.a r.b → Pair (2 * t) x y
        go (inl k) = to-pair (2 * t) x y r.a r.b r.small r.large k
        go (inr k) = absurd (not-le_of_lt (lt_of_le_of_lt k.0 (pow-lt big)) h)

    up-pair : (t : ℕ) → z + t ≡ 1075 → Pair (2 * t) (Σ (suc M) F) (Σ (suc M) G)
    up-pair t e =
        let k : t ≤ 554 = under z t e z-ge in
        let r = run-sums (2 * t) F G M (enough t k) fits-F fits-G (up_run t e k) finite-sum finite-sum-w in
        to-alike t (55 * suc M - 1) (Σ (suc M) F) (Σ (suc M) G) (last M) r (units-le f (Σ (suc M) F) (2 ^ (55 * suc M - 1)) r.a f-units r.small low_sum)
      where
        last : (M : ℕ) → 53 + 55 * M < 55 * suc M - 1
        last M = omega arith

        under : (z t : ℕ) → z + t ≡ 1075 → 521 ≤ z → t ≤ 554
        under z t e h = omega arith

    down-pair : (t : ℕ) → z ≡ 1075 + t → Pair (2 * t) (Σ (suc M) G) (Σ (suc M) F)
    down-pair t e =
        let k : t ≤ 554 = under z t e z-le in
        let r = run-sums (2 * t) G F M (enough t k) fits-G fits-F (down_run t e k) finite-sum-w finite-sum in
        let n = unit top top-le in
        let ge : 2 ^ 1074 * 2 ^ t ≤ n = le_trans (le_of_eq (sym (pow-add 2 1074 t) ∙ ap (λ (k : ℕ). 2 ^ k) (back z t e))) top-ge in
        let d = entry-split z t (at v top) (sign top top-le) n e (fit top (inside top top-le)) (value top top-le) (le_trans (mul-le-mul_right (2 ^ t) (lit≤ {m = 2 ^ 52} {n = 2 ^ 1074} tt)) ge) in
        let y = subst (λ (x : Float). HasValue x (sign top top-le) d.0 (2 ^ 1074)) (at-w v some fit top (inside top top-le)) d.1 in
        let one : 2 ^ 1074 ≤ d.0 = le_of_mul-le-mul_right (le_trans ge (le_of_eq d.2)) (pow_pos t) in
        let s = sums-over 1074 G M (lit≤ tt) (λ i l. let p = square-w i l in (p.0, p.1)) finite-sum-w top top-le (square-lower 1074 (at w top) (sign top top-le) d.0 (lit≤ tt) y (square_le (2 ^ 1074) d.0 one)) in
        to-alike t 1074 (Σ (suc M) G) (Σ (suc M) F) (last M M-le) r (le_trans s.2 (le_of_eq (same_units (Σ (suc M) G) s.0 r.a s.1 r.small)))
      where
        last : (M : ℕ) → M ≤ 17 → 53 + 55 * M < 1074
        last M h = omega arith

        under : (z t : ℕ) → z ≡ 1075 + t → z ≤ 1629 → t ≤ 554
        under z t e h = omega arith

        back : (z t : ℕ) → z ≡ 1075 + t → 1074 + t ≡ z - 1
        back z t e = omega arith

    decides : norm v ≡ plain_norm v
    decides =
        finite-norm
        ∙ ap (λ (q : Bool). cond q +0 (rescaled z v)) (no_zero (largest (length v) v) (most_pos z-pos))
        ∙ by_digits v some fit
        (λ t e. up-back v some fit t e (subst (λ (n : ℕ). Pair (2 * t) (Σ n F) (Σ n G)) (sym (nonempty v some fit)) (up-pair t e)))
        (λ t e. down-back v some fit t e (subst (λ (n : ℕ). Pair (2 * t) (Σ n G) (Σ n F)) (sym (nonempty v some fit)) (down-pair t e)))

pub sum-bounds : SumBounds
sum-bounds v some few fit lo hi = bounds v some few fit (zero-finite (dot (length v) v v) lo hi) (subst (λ (x : Float). T (le x faint_sum)) (is_sum v some few fit (zero-finite (dot (length v) v v) lo hi)) (subst T (sym hi) tt))

-- by any f64 that is the least sum
by-least : (v : List Float) → 0 < length v → length v ≤ 18 → ((i : ℕ) → i < length v → T (fits binary64 (at v i))) → (f : Float) → IsUnits f (2 ^ (55 * length v - 1))
    → le f (dot (length v) v v) ≡ true → le (dot (length v) v v) most_sum ≡ true → norm v ≡ plain_norm v
by-least v some few fit f u lo hi =
    let total = between-finite f (dot (length v) v v) (2 ^ (55 * length v - 1)) u lo hi in
    decides v some few fit total f (subst (λ (n : ℕ). IsUnits f (2 ^ (55 * n - 1))) (nonempty v some fit) u) (subst (λ (x : Float). T (le f x)) (is_sum v some few fit total) (subst T (sym lo) tt))

least-units : (n : ℕ) → 0 < n → IsUnits (least_sum n) (2 ^ (55 * n - 1))
least-units n h = (
  refl,
  eq_of_mul-eq-mul_right 2 (zero-lt-suc 1) (1 * up (minus (55 * n) 1075) * 2 ^ 1074) (2 ^ (55 * n - 1) * down (minus (55 * n) 1075))
      (mul_assoc (1 * up (minus (55 * n) 1075)) (2 ^ 1074) 2
      ∙ minus_val 1 (55 * n) 1075
      ∙ ap (λ (k : ℕ). k * down (minus (55 * n) 1075)) (one-mul (2 ^ (55 * n)) ∙ ap (λ (k : ℕ). 2 ^ k) (back n h) ∙ pow-add 2 (55 * n - 1) 1)
      ∙ mul_right_comm (2 ^ (55 * n - 1)) 2 (down (minus (55 * n) 1075))),
)
  where
    back : (n : ℕ) → 0 < n → 55 * n ≡ 55 * n - 1 + 1
    back n h = omega arith

pub sum-decides : SumDecides
sum-decides v some few fit lo hi = by-least v some few fit (least_sum (length v)) (least-units (length v) some) lo hi

-- ---- the ways out of the code
pub lit-low : of_bits binary64 4246894448610377728 ≡ faint_sum
unfolding of_bits of_fields odd count_trailing_zeros
lit-low = refl

pub lit-high : of_bits binary64 9110782046170513408 ≡ most_sum
unfolding of_bits of_fields odd count_trailing_zeros
lit-high = refl

pub decided : (v : List Float) (f : Float) → 0 < length v → length v ≤ 18 → ((i : ℕ) → i < length v → T (fits binary64 (at v i))) → IsUnits f (2 ^ (55 * length v - 1))
    → le f (dot (length v) v v) ≡ true → le (dot (length v) v v) most_sum ≡ true → sqrt_of (dot (length v) v v) ≡ norm v
unfolding plain_norm
decided v f some few fit u lo hi = sym (by-least v some few fit f u lo hi)

pub decided-from : (v : List Float) (f : Float) → 0 < length v → length v ≤ 18 → ((i : ℕ) → i < length v → T (fits binary64 (at v (0 + i)))) → IsUnits f (2 ^ (55 * length v - 1))
    → le f (dot (length v) v v) ≡ true → le (dot (length v) v v) most_sum ≡ true → sqrt_of (dot (length v) v v) ≡ norm v
decided-from v f some few fit u lo hi = decided v f some few (λ i l. subst (λ (n : ℕ). T (fits binary64 (at v n))) (zero-add i) (fit i l)) u lo hi

-- what is above the floor is not below zero
pub above-least : (f s : Float) (n : ℕ) → IsUnits f n → 0 < n → le f s ≡ true → le +0 s ≡ true
unfolding le lt eq
above-least f s n u p h = go s (above_of_le f s (positive_of_value f n (2 ^ 1074) u p) (subst T (sym h) tt))
  where
    go : (s : Float) → T (above s) → le +0 s ≡ true
    go nan t = absurd t
    go (inf true) t = absurd t
    go (inf false) t = refl
    go (fin true m e) t = absurd t
    go (fin false m e) t =
        is_true (le +0 (fin false m e)) (le_of_values +0 (fin false m e) 0 1 (m * up e) (down e) (pow_pos 0) (down_pos e) (refl, refl) (refl, refl) (le_trans (le_of_eq (zero-mul (down e))) zero-le))
