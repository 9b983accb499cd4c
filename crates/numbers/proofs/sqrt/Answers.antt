-- `sqrt` meets its contract. Each way out is one law of `proofs/Patterns.antt` on the pattern `b` of `x`.
use mathlib.Core.Path.{◌≡◌, refl, sym, ap, ◌∙◌, subst}
use mathlib.Core.Bool.{true, false, not, true≢false}
use Prim.Native.Nat.{ℕ, ◌*◌, ◌%◌, ◌^◌, ◌≤◌, ◌<◌}
use native.Mathlib.Omega.{arith}
use lib.Dec.{T}
use lib.Ieee.{Float, nan, inf, fin, binary64, fits, is_nan, ne, div, to_bits, of_bits}
use lib.Ieee.Bits.{of_bits-to_bits, to_bits-lt}
use lib.Ieee.Compare.{differs_from_itself, nan_differs}
use Rattle.numbers.specs.Root.{root_of, sqrt_of}
use Rattle.numbers.proofs.Patterns.{of-subnormal, of-normal, of-minus, of_zero, of_inf, no-nan-le}
use Rattle.numbers.proofs.sqrt.Goals as goal

sqrt-nan : (x : Float) → ne x x ≡ true → x ≡ sqrt_of x
unfolding sqrt_of
sqrt-nan x d = subst (λ (y : Float). y ≡ sqrt_of y) (sym (differs_from_itself x (subst T (sym d) tt))) refl

number : (x : Float) → ne x x ≡ false → T (not (is_nan x))
unfolding is_nan
number nan d = absurd (true≢false (sym nan_differs ∙ d))
number (inf s) d = tt
number (fin s m e) d = tt

-- 0.0 / 0.0
zero_by_zero : div binary64 (of_bits binary64 0) (of_bits binary64 0) ≡ nan
unfolding div of_bits
zero_by_zero = refl

-- what the type of an `f64` tells, of its bits: they are a pattern of x, and a number of 64 bits
module _ (x : Float) (held : T (fits binary64 x)) where
  abbrev b : ℕ
  b = to_bits binary64 x

  same : of_bits binary64 b ≡ x
  same = of_bits-to_bits binary64 x held

  wide : b < 2 ^ 64
  wide = to_bits-lt binary64 x held

  finite : ne x x ≡ false → b % 9223372036854775808 ≤ 9218868437227405312
  finite d = no-nan-le b (subst (λ (y : Float). T (not (is_nan y))) (sym same) (number x d))

pub returns-then-x : goal.returns-then-x
returns-then-x c = sqrt-nan c.args.x c.if-x.true

pub float_to_bits-b : goal.float_to_bits-b
float_to_bits-b c = number c.args.x c.if-x.false

pub returns-then-size-eq0 : goal.returns-then-size-eq0
returns-then-size-eq0 c = sym (subst (λ (y : Float). sqrt_of y ≡ y) (same c.args.x (subst T (sym c.well_formed.0.1) tt)) (of_zero (to_bits binary64 c.args.x) c.if-size-eq0.true (wide c.args.x (subst T (sym c.well_formed.0.1) tt))))

pub returns-then-b-eq9218868437227405312 : goal.returns-then-b-eq9218868437227405312
returns-then-b-eq9218868437227405312 c = sym (subst (λ (y : Float). sqrt_of y ≡ y) (ap (of_bits binary64) (sym c.if-b-eq9218868437227405312.true) ∙ same c.args.x (subst T (sym c.well_formed.0.1) tt)) of_inf)

pub returns-then-b-gt9223372036854775808 : goal.returns-then-b-gt9223372036854775808
returns-then-b-gt9223372036854775808 c = zero_by_zero ∙ sym (subst (λ (y : Float). sqrt_of y ≡ nan) (same c.args.x (subst T (sym c.well_formed.0.1) tt)) (of-minus (to_bits binary64 c.args.x) c.if-b-gt9223372036854775808.true (wide c.args.x (subst T (sym c.well_formed.0.1) tt))))

pub returns-then-e-eq0 : goal.returns-then-e-eq0
returns-then-e-eq0 c = let t : to_bits binary64 c.args.x % 4503599627370496 ≡ to_bits binary64 c.args.x = omega arith in
    c.root_at.ensures
    ∙ ap (λ (n : ℕ). root_of (n * 2 ^ 0)) t
    ∙ sym (of-subnormal (to_bits binary64 c.args.x) (omega arith) (omega arith))
    ∙ ap sqrt_of (same c.args.x (subst T (sym c.well_formed.0.1) tt))

pub root_at-requires-2 : goal.root_at-requires-2
root_at-requires-2 c = record { m_nonzero = omega arith; m_bound = omega arith; j_bound = omega (arith, finite c.args.x (subst T (sym c.well_formed.0.1) tt) c.if-x.false) }

pub returns : goal.returns
returns c = c.root_at-2.ensures ∙ sym (of-normal (to_bits binary64 c.args.x) (omega arith) (omega (arith, finite c.args.x (subst T (sym c.well_formed.0.1) tt) c.if-x.false))) ∙ ap sqrt_of (same c.args.x (subst T (sym c.well_formed.0.1) tt))
