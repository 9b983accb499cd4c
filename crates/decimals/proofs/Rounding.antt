-- The nearest whole number to a fraction: what it is, and that only one is.
use mathlib.Core.Path.{◌≡◌, ap, ◌∙◌, subst}
use mathlib.Core.Logic.{◌⊎◌, inl, inr, ⊎_elim}
use mathlib.Core.Bool.{not}
use Prim.Native.Nat.{ℕ, suc, ◌+◌, ◌*◌, ◌/◌, ◌%◌, ◌≤◌, ◌<◌, compare, Ordering}
use native.Mathlib.Nat.{mod-lt, div-add-mod', mul-le-mul_right}
use native.Mathlib.Omega.{arith}
use lib.Dec.{T, is_le, compare_is_eq, eqb, leb→le, nleb→lt, eqb→eq, eqb_refl}
use lib.Arith.{lt_of_le-ne}
use lib.Ieee.{nearest}
use lib.Ieee.Nearest.{closest}
use Rattle.numbers.proofs.Cases.{lt-or-ge}
use Rattle.decimals.specs.Claims.{HalfAway}

-- ---- what `compare` says
abbrev pub Says : Ordering → ℕ → ℕ → Type 0
Says Ordering.lt a b = a < b
Says Ordering.eq a b = a ≡ b
Says Ordering.gt a b = b < a

pub says : (a b : ℕ) → Says (compare a b) a b
says a b = go (compare a b) (leb→le a b) (nleb→lt a b) (eqb→eq a b) (λ (e : a ≡ b). subst (λ (x : ℕ). T (eqb a x)) e (eqb_refl a))
  where
    go : (o : Ordering) → (T (is_le o) → a ≤ b) → (T (not (is_le o)) → b < a) → (T (compare_is_eq o) → a ≡ b) → (a ≡ b → T (compare_is_eq o)) → Says o a b
    go Ordering.lt h k e n = lt_of_le-ne (h tt) n
    go Ordering.eq h k e n = e tt
    go Ordering.gt h k e n = k tt

-- ---- what it is: with a = x + r, where x is the whole part times b
module _ (a b : ℕ) (B : 0 < b) where
  even-or-odd : (q : ℕ) → (q % 2 ≡ 0) ⊎ (q % 2 ≡ 1)
  even-or-odd q = ⊎_elim (λ (h : q % 2 < 1). inl (omega arith)) (λ (h : 1 ≤ q % 2). inr (omega arith)) (lt-or-ge (q % 2) 1)

  whole_is : a / b * b + a % b ≡ a
  whole_is = div-add-mod' a b

  here : a % b * 2 ≤ b → (a % b * 2 ≡ b → a / b % 2 ≡ 0) → HalfAway a b (a / b)
  here h t = let r = mod-lt a B in let w = whole_is in record {
    above = omega arith;
    below = omega arith;
    even_above = λ e. absurd (omega arith);
    even_below = λ e. t (omega arith);
  }

  next : b ≤ a % b * 2 → (a % b * 2 ≡ b → suc (a / b) % 2 ≡ 0) → HalfAway a b (suc (a / b))
  next h t =
      let r = mod-lt a B in
      let w = whole_is in
      let m : suc (a / b) * b ≡ a / b * b + b = omega arith in
      record {
        above = omega arith;
        below = omega arith;
        even_above = λ e. t (omega arith);
        even_below = λ e. absurd (omega arith);
      }

  half : (o : Ordering) → Says o (a % b * 2) b → HalfAway a b (nearest (a / b) o)
  half Ordering.lt s = here (omega arith) (λ e. absurd (omega arith))
  half Ordering.gt s = next (omega arith) (λ e. absurd (omega arith))
  half Ordering.eq s =
      ⊎_elim (λ (z : a / b % 2 ≡ 0). let e : a / b ≡ a / b + a / b % 2 = omega arith in subst (HalfAway a b) e (here (omega arith) (λ u. z)))
      (λ (z : a / b % 2 ≡ 1). let e : suc (a / b) ≡ a / b + a / b % 2 = omega arith in subst (HalfAway a b) e (next (omega arith) (λ u. omega arith)))
      (even-or-odd (a / b))

  pub closest-half : HalfAway a b (closest a b)
  closest-half = half (compare (a % b * 2) b) (says (a % b * 2) b)

  -- ---- and only one is
  never : (t u : ℕ) → HalfAway a b t → HalfAway a b u → t < u → ⊥
  never t u g h l = ⊎_elim
      (λ (s : u < suc (suc t)). let e : u ≡ suc t = omega arith in let m : u * b ≡ t * b + b = ap (λ (x : ℕ). x * b) e ∙ omega arith in
      let p : t % 2 ≡ 0 = g.even_below (omega (arith, g.below, h.above)) in
      let q : u % 2 ≡ 0 = h.even_above (omega (arith, g.below, h.above)) in
      omega arith)
      (λ (s : suc (suc t) ≤ u). let m : suc (suc t) * b ≤ u * b = mul-le-mul_right b s in let n : suc (suc t) * b ≡ t * b + b + b = omega arith in
      omega (arith, g.below, h.above))
      (lt-or-ge u (suc (suc t)))

  pub only_one : (t u : ℕ) → HalfAway a b t → HalfAway a b u → t ≡ u
  only_one t u g h =
      ⊎_elim (λ (l : t < u). absurd (never t u g h l))
      (λ (l : u ≤ t). ⊎_elim (λ (k : u < t). absurd (never u t h g k)) (λ (k : t ≤ u). omega arith) (lt-or-ge u t))
      (lt-or-ge t u)
