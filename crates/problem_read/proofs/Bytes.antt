-- Floats by their bits, and the same float.
use mathlib.Core.Path.{◌≡◌, refl, sym, ap, ◌∙◌, subst}
use mathlib.Core.Bool.{Bool, true, false, not, ◌&&◌, true≢false}
use Prim.Native.Nat.{ℕ, ◌^◌, ◌/◌, ◌%◌}
use borrow.Author.Tests.{eq-eqb, ne_eqb, eqb-true}
use lib.Dec.{T, eqb}
use lib.Ieee.{Float, nan, inf, fin, binary64, fits, is_nan, nan_bits, of_bits, to_bits, div, ne}
use lib.Ieee.Bits.{nan_bits_is, of_bits-to_bits}
use lib.Ieee.Compare.{differs_from_itself, nan_differs}

pub and-false : (a : Bool) → (a && false) ≡ false
and-false true = refl
and-false false = refl

is-nan : (x : Float) → is_nan x ≡ true → x ≡ nan
unfolding is_nan
is-nan nan e = refl
is-nan (inf s) e = let z : ◌≡◌ {A = Bool} false true = e in cc
is-nan (fin s m k) e = let z : ◌≡◌ {A = Bool} false true = e in cc

pub nan-bits : (b : ℕ) → b % 2 ^ 63 / 2 ^ 52 ≡ 2047 → (b % 2 ^ 52 ≡ 0 → ⊥) → nan_bits binary64 b ≡ true
unfolding nan_bits
nan-bits b p q = simp (eq-eqb _ _ p, ne_eqb _ _ q)

pub nan-value : (b : ℕ) → nan_bits binary64 b ≡ true → of_bits binary64 b ≡ nan
nan-value b e = is-nan (of_bits binary64 b) (sym (nan_bits_is binary64 b) ∙ e)

pub zero_by_zero : div binary64 (of_bits binary64 0) (of_bits binary64 0) ≡ nan
unfolding div of_bits
zero_by_zero = refl

pub no-nan-field : (b : ℕ) → (b % 2 ^ 63 / 2 ^ 52 ≡ 2047 → ⊥) → nan_bits binary64 b ≡ false
unfolding nan_bits
no-nan-field b p = simp (ne_eqb _ _ p)

pub no-nan-digits : (b : ℕ) → b % 2 ^ 52 ≡ 0 → nan_bits binary64 b ≡ false
unfolding nan_bits
no-nan-digits b q = simp (eq-eqb _ _ q) (and-false (eqb (b % 2 ^ 63 / 2 ^ 52) 2047))

-- ---- the same float

pub never : {A : Type 0} → ◌≡◌ {A = Bool} false true → A
never e = absurd (true≢false (sym e))

-- what differs from itself is NaN
differs-nan : (x : Float) → ne x x ≡ true → x ≡ nan
differs-nan x d = differs_from_itself x (subst T (sym d) tt)

pub nan_same : (x y : Float) → ne x x ≡ true → ne y y ≡ true → x ≡ y
nan_same x y d e = differs-nan x d ∙ sym (differs-nan y e)

pub nan-alike : (x y : Float) → ne x x ≡ true → x ≡ y → ne y y ≡ true
nan-alike x y d e = subst (λ (v : Float). ne v v ≡ true) e d

pub nan-apart : (x y : Float) → ne x x ≡ false → ne y y ≡ true → x ≡ y → false ≡ true
nan-apart x y d e f = sym d ∙ subst (λ (v : Float). ne v v ≡ true) (sym f) e

pub not-nan : (x : Float) → ne x x ≡ false → is_nan x ≡ false
unfolding is_nan
not-nan nan d = absurd (true≢false (sym nan_differs ∙ d))
not-nan (inf s) d = refl
not-nan (fin s m e) d = refl

-- a number has bits
pub some_bits : (x : Float) → ne x x ≡ false → T (not (is_nan x))
some_bits x d = rw (not-nan x d) tt

pub same_bits : (x y : Float) → fits binary64 x ≡ true → fits binary64 y ≡ true → eqb (to_bits binary64 x) (to_bits binary64 y) ≡ true → x ≡ y
same_bits x y f g e =
    sym (of_bits-to_bits binary64 x (subst T (sym f) tt))
    ∙ ap (of_bits binary64) (eqb-true _ _ e)
    ∙ of_bits-to_bits binary64 y (subst T (sym g) tt)
