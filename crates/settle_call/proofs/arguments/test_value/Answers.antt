-- `test_value`: a wrong value, a wrong spread, or neither.
use mathlib.Core.Path.{sym, ◌∙◌}
use Rattle.settle_call.proofs.arguments.test_value.Goals as goal

pub is_finite-finite-requires : goal.is_finite-finite-requires
is_finite-finite-requires c = tt

pub is_positive-positive-requires : goal.is_positive-positive-requires
is_positive-positive-requires c = tt

pub returns-then-not-finite : goal.returns-then-not-finite
returns-then-not-finite c = rw (sym c.is_finite-finite.ensures ∙ c.if-not-finite.true)

pub returns-then-not-positive : goal.returns-then-not-positive
returns-then-not-positive c = rw (sym c.is_finite-finite.ensures ∙ c.if-not-finite.false, sym c.is_positive-positive.ensures ∙ c.if-not-positive.true)

pub returns : goal.returns
returns c = rw (sym c.is_finite-finite.ensures ∙ c.if-not-finite.false, sym c.is_positive-positive.ensures ∙ c.if-not-positive.false)
