use Rattle.interval.proofs.Answers.{ends, not-false, not-true, zero_or, or-zero, product-none, product-zero, product-one, product-minus, product-moved}
use mathlib.Core.Path.{ap₂}
use Rattle.interval.proofs.Interval.product.Goals as goal

pub returns-then-not-is_finite : goal.returns-then-not-is_finite
returns-then-not-is_finite c = product-none _ _ _ _ c.is_finite.ensures (not-true _ c.if-not-is_finite.true-raw) c.line.ensures

pub returns-then-x : goal.returns-then-x
returns-then-x c = product-zero _ _ _ c.is_finite.ensures (not-false _ c.if-not-is_finite.false-raw) (zero_or _ _ c.if-x.true)

pub returns-then-y : goal.returns-then-y
returns-then-y c = product-zero _ _ _ c.is_finite.ensures (not-false _ c.if-not-is_finite.false-raw) (or-zero _ _ _ c.if-x.false c.if-y.true)

pub returns-then-x-2 : goal.returns-then-x-2
returns-then-x-2 c = product-one _ _ _ c.is_finite.ensures (not-false _ c.if-not-is_finite.false-raw) (or-zero _ _ _ c.if-x.false c.if-y.false) c.if-x-2.true

pub returns-then-x-3 : goal.returns-then-x-3
returns-then-x-3 c = product-minus _ _ _ c.is_finite.ensures (not-false _ c.if-not-is_finite.false-raw) (or-zero _ _ _ c.if-x.false c.if-y.false) c.if-x-2.false c.if-x-3.true

pub returns : goal.returns
returns c = product-moved _ _ _ _ c.is_finite.ensures (not-false _ c.if-not-is_finite.false-raw) (or-zero _ _ _ c.if-x.false c.if-y.false) c.if-x-2.false c.if-x-3.false (ap₂ ends c.next_down.ensures c.next_up.ensures)
