-- `tests/test_meter`: a wrong value, a wrong spread, or neither.
use mathlib.Core.Path.{sym, ◌∙◌}
use Rattle.suspect_call.proofs.arguments.test_meter.Goals as goal

pub is_finite-read-requires : goal.is_finite-read-requires
is_finite-read-requires c = tt

pub is_spread-spreads-requires : goal.is_spread-spreads-requires
is_spread-spreads-requires c = tt

pub returns-then-not-read : goal.returns-then-not-read
returns-then-not-read c = rw (sym c.is_finite-read.ensures ∙ c.if-not-read.true)

pub returns-then-not-spreads : goal.returns-then-not-spreads
returns-then-not-spreads c = rw (sym c.is_finite-read.ensures ∙ c.if-not-read.false, sym c.is_spread-spreads.ensures ∙ c.if-not-spreads.true)

pub returns : goal.returns
returns c = rw (sym c.is_finite-read.ensures ∙ c.if-not-read.false, sym c.is_spread-spreads.ensures ∙ c.if-not-spreads.false)
