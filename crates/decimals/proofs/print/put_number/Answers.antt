-- `put_number`: each way out is one law of `proofs/Sizes.antt` on the pattern of `x`.
use mathlib.Core.Path.{◌≡◌, sym, ap, ◌∙◌, subst}
use mathlib.Core.Bool.{false, not}
use mathlib.Core.List.{List}
use Prim.Native.Nat.{ℕ, ◌%◌, ◌^◌, ◌≤◌, ◌<◌}
use native.Mathlib.Omega.{arith}
use lib.Dec.{T, leb}
use lib.ListN.{length, take}
use lib.Pow.{pow_pos}
use lib.Ieee.{Float, binary64, fits, is_nan, ne, to_bits, of_bits}
use lib.Ieee.Bits.{of_bits-to_bits}
use lib.Ieee.Exact.{HasValue}
use Rattle.numbers.proofs.Patterns.{no-nan-le}
use Rattle.decimals.specs.Fixed.{small_text}
use Rattle.decimals.specs.inner.Units.{units_of}
use Rattle.ascii.specs.inner.Work.{Wrote}
use Rattle.ascii.proofs.Writing.{as-text, wrote-all, wrote-front}
use Rattle.decimals.proofs.Sizes.{pattern, infinite, units_under, units-over, units-zero, text-nan, not-nan, text-inf, text-small, text-large}
use Rattle.decimals.proofs.print.put_number.Goals as goal

-- what was written from the start
front : {b t a : List ℕ} {r : ℕ} → Wrote b 0 t a r → r ≤ 21 → (take r a ≡ t) × ((r ≤ 21) × (r ≤ length a) × (r ≡ length (take r a)))
front w h = (wrote-front w, (h, (wrote-all w).0, (wrote-all w).1))

abbrev b : Float → ℕ
b x = to_bits binary64 x

-- what owning an `f64` tells of its bits
same : (x : Float) → T (fits binary64 x) → of_bits binary64 (b x) ≡ x
same x owned = of_bits-to_bits binary64 x owned

number : (x : Float) → T (fits binary64 x) → ne x x ≡ false → b x % 9223372036854775808 ≤ 9218868437227405312
number x owned d = no-nan-le (b x) (subst (λ (y : Float). T (not (is_nan y))) (sym (same x owned)) (not-nan x d))

value : (x : Float) →
    T (fits binary64 x) → b x % 9223372036854775808 < 9218868437227405312 → HasValue x (leb 9223372036854775808 (b x)) (units_of (b x % 9223372036854775808)) (2 ^ 1074)
value x owned h = subst (λ (y : Float). HasValue y (leb 9223372036854775808 (b x)) (units_of (b x % 9223372036854775808)) (2 ^ 1074)) (same x owned) (pattern (b x) h)

pub returns-then-x : goal.returns-then-x
returns-then-x c = let r = front (as-text (text-nan _ c.if-x.true) c.put_text.ensures) (omega (arith, c.put_text.ensures.until)) in record { out_after = r.0; upper_bound = r.1 }

pub float_to_bits-b : goal.float_to_bits-b
float_to_bits-b c = not-nan _ c.if-x.false

pub returns-then-size-eq9218868437227405312 : goal.returns-then-size-eq9218868437227405312
returns-then-size-eq9218868437227405312 c = let r = front (as-text (text-inf c.args.x (leb 9223372036854775808 (b c.args.x)) (sym (same c.args.x (subst T (sym c.well_formed.1.0.1) tt)) ∙ infinite (b c.args.x) c.if-size-eq9218868437227405312.true)) c.put_word.ensures.wrote) c.put_word.ensures.upper_bound in record { out_after = r.0; upper_bound = r.1 }

pub returns-then-size-ge4845873199050653696 : goal.returns-then-size-ge4845873199050653696
returns-then-size-ge4845873199050653696 c = let n = number c.args.x (subst T (sym c.well_formed.1.0.1) tt) c.if-x.false in let l : b c.args.x % 9223372036854775808 < 9218868437227405312 = omega arith in let r = front (as-text (text-large (units_of (b c.args.x % 9223372036854775808)) (2 ^ 1074) (pow_pos 1074) c.args.x (leb 9223372036854775808 (b c.args.x)) (value c.args.x (subst T (sym c.well_formed.1.0.1) tt) l) (units-over (b c.args.x % 9223372036854775808) (omega arith))) c.put_word-then-size-ge4845873199050653696.ensures.wrote) c.put_word-then-size-ge4845873199050653696.ensures.upper_bound in record { out_after = r.0; upper_bound = r.1 }

pub returns : goal.returns
returns c = let t = ap (small_text (leb 9223372036854775808 (b c.args.x)) (b c.args.x % 9223372036854775808)) c.thousandths.ensures.value in let e = text-small (units_of (b c.args.x % 9223372036854775808)) (2 ^ 1074) (pow_pos 1074) c.args.x (leb 9223372036854775808 (b c.args.x)) (b c.args.x % 9223372036854775808) (units-zero (b c.args.x % 9223372036854775808)) (value c.args.x (subst T (sym c.well_formed.1.0.1) tt) (omega arith)) (units_under (b c.args.x % 9223372036854775808) (omega arith)) in let r = front (as-text (t ∙ e) c.put_small.ensures.wrote) c.put_small.ensures.upper_bound in record { out_after = r.0; upper_bound = r.1 }
