-- `next_up` meets its contract. Each way out is one law of `proofs/Next.antt` on the pattern of `x`.
use mathlib.Core.Path.{◌≡◌, sym, ap, ◌∙◌, subst}
use mathlib.Core.Bool.{not, false}
use Prim.Native.Nat.{ℕ, ◌%◌, ◌^◌, ◌≤◌, ◌<◌}
use native.Mathlib.Omega.{arith}
use lib.Dec.{T}
use lib.Ieee.{Float, binary64, fits, is_nan, ne, to_bits, of_bits}
use lib.Ieee.Bits.{of_bits-to_bits, to_bits-lt}
use lib.Ieee.Compare.{differs_from_itself}
use Rattle.numbers.proofs.Patterns.{no-nan-le}
use Rattle.interval.specs.Next.{after, next_up}
use Rattle.interval.proofs.Ends.{NextUp}
use Rattle.interval.proofs.Answers.{top-is, number, no-nan-any}
use Rattle.interval.proofs.Next.{of_nan, of-top, next-up-is, top-plus, after_plus, after-zero, after_minus}
use Rattle.interval.proofs.next_up.Goals as goal

-- what owning an `f64` tells of its bits
module _ (x : Float) (held : T (fits binary64 x)) where
  abbrev b : ℕ
  b = to_bits binary64 x

  same : of_bits binary64 b ≡ x
  same = of_bits-to_bits binary64 x held

  wide : b < 2 ^ 64
  wide = to_bits-lt binary64 x held

  sized : ne x x ≡ false → b % 9223372036854775808 ≤ 9218868437227405312
  sized d = no-nan-le b (subst (λ (y : Float). T (not (is_nan y))) (sym same) (number x d))

  next : ne x x ≡ false → (b ≡ 9218868437227405312 → ⊥) → NextUp x (after b)
  next d n = next-up-is x held (number x d) n

pub returns-then-x : goal.returns-then-x
returns-then-x c = top-is ∙ of_nan.is ∙ ap next_up (sym (differs_from_itself c.args.x (subst T (sym c.if-x.true) tt)))

pub float_to_bits-b : goal.float_to_bits-b
float_to_bits-b c = number c.args.x c.if-x.false

pub returns-then-b-eq9218868437227405312 : goal.returns-then-b-eq9218868437227405312
returns-then-b-eq9218868437227405312 c = let e = sym top-plus ∙ ap (of_bits binary64) (sym c.if-b-eq9218868437227405312.true) ∙ same c.args.x (subst T (sym c.well_formed.0.1) tt) in
    sym e ∙ of-top.is ∙ ap next_up e

pub float_from_bits-result : goal.float_from_bits-result
float_from_bits-result c = let f = sized c.args.x (subst T (sym c.well_formed.0.1) tt) c.if-x.false in no-nan-any _ (omega arith)

pub returns-then-b-lt9223372036854775808 : goal.returns-then-b-lt9223372036854775808
returns-then-b-lt9223372036854775808 c = sym (after_plus (b c.args.x (subst T (sym c.well_formed.0.1) tt)) c.if-b-lt9223372036854775808.true) ∙ (next c.args.x (subst T (sym c.well_formed.0.1) tt) c.if-x.false c.if-b-eq9218868437227405312.false).is

pub float_from_bits-result-then-b : goal.float_from_bits-result-then-b
float_from_bits-result-then-b c = no-nan-any 1 (omega arith)

pub returns-then-b : goal.returns-then-b
returns-then-b c = sym (ap after c.if-b.true ∙ after-zero) ∙ (next c.args.x (subst T (sym c.well_formed.0.1) tt) c.if-x.false c.if-b-eq9218868437227405312.false).is

pub float_from_bits-result-2 : goal.float_from_bits-result-2
float_from_bits-result-2 c = let f = sized c.args.x (subst T (sym c.well_formed.0.1) tt) c.if-x.false in let w = wide c.args.x (subst T (sym c.well_formed.0.1) tt) in no-nan-any _ (omega arith)

pub returns : goal.returns
returns c = sym (after_minus (b c.args.x (subst T (sym c.well_formed.0.1) tt)) (omega arith)) ∙ (next c.args.x (subst T (sym c.well_formed.0.1) tt) c.if-x.false c.if-b-eq9218868437227405312.false).is
