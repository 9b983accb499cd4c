-- `test_least`, each way out by its test.
use mathlib.Core.Path.{sym, ◌∙◌}
use Rattle.settle_call.proofs.arguments.test_least.Goals as goal

pub is_finite-requires : goal.is_finite-requires
is_finite-requires c = tt

pub returns-then-not-is_finite : goal.returns-then-not-is_finite
returns-then-not-is_finite c = rw (sym c.is_finite.ensures ∙ c.if-not-is_finite.true)

pub returns : goal.returns
returns c = rw (sym c.is_finite.ensures ∙ c.if-not-is_finite.false)
