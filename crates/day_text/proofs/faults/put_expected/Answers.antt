-- `put_expected`: the words of each case.
use mathlib.Core.Path.{sym, ap}
use native.Mathlib.Omega.{arith}
use Rattle.ascii.proofs.Writing.{as-text}
use Rattle.ascii.specs.Text.{ascii}
use Rattle.day_text.proofs.Expecting.{from-part}
use Rattle.day_text.specs.Refusals.{expected_text}
use Rattle.numbers.specs.Numbers.{tab}
use borrow.Enum.Refused.{opened}
use Rattle.day_text.proofs.faults.put_expected.Goals as goal

pub put_text-requires : goal.put_text-requires
put_text-requires c = omega (arith, c.requires)

pub put_text-requires-in-SmallKind : goal.put_text-requires-in-SmallKind
put_text-requires-in-SmallKind c = omega (arith, c.requires)

pub put_text-requires-in-OneTitle : goal.put_text-requires-in-OneTitle
put_text-requires-in-OneTitle c = omega (arith, c.requires)

pub put_text-requires-in-OneTolerance : goal.put_text-requires-in-OneTolerance
put_text-requires-in-OneTolerance c = omega (arith, c.requires)

pub put_text-requires-in-Late : goal.put_text-requires-in-Late
put_text-requires-in-Late c = omega (arith, c.requires)

pub put_text-requires-in-FewItems : goal.put_text-requires-in-FewItems
put_text-requires-in-FewItems c = omega (arith, c.requires)

pub put_text-requires-in-MeterBefore : goal.put_text-requires-in-MeterBefore
put_text-requires-in-MeterBefore c = omega (arith, c.requires)

pub put_text-requires-in-FewBalances : goal.put_text-requires-in-FewBalances
put_text-requires-in-FewBalances c = omega (arith, c.requires)

pub put_text-requires-in-FewLimits : goal.put_text-requires-in-FewLimits
put_text-requires-in-FewLimits c = omega (arith, c.requires)

pub put_text-requires-in-FewDoubts : goal.put_text-requires-in-FewDoubts
put_text-requires-in-FewDoubts c = omega (arith, c.requires)

pub put_text-requires-in-Text : goal.put_text-requires-in-Text
put_text-requires-in-Text c = omega (arith, c.requires)

pub put_expected_part-requires : goal.put_expected_part-requires
put_expected_part-requires c = (omega (arith, c.requires), from-part _ (opened c.in_default.in_default-own.keys12))

pub shape_of-out-in-Kind : goal.shape_of-out-in-Kind
shape_of-out-in-Kind c = omega arith

pub returns-in-Kind : goal.returns-in-Kind
unfolding ascii tab expected_text
returns-in-Kind c = record { wrote = as-text (ap expected_text (sym c.in-Kind.is)) c.put_text.ensures; upper_bound = omega (arith, c.put_text.ensures.until) }

pub shape_of-out-in-SmallKind : goal.shape_of-out-in-SmallKind
shape_of-out-in-SmallKind c = omega arith

pub returns-in-SmallKind : goal.returns-in-SmallKind
unfolding ascii tab expected_text
returns-in-SmallKind c = record { wrote = as-text (ap expected_text (sym c.in-SmallKind.is)) c.put_text-in-SmallKind.ensures; upper_bound = omega (arith, c.put_text-in-SmallKind.ensures.until) }

pub shape_of-out-in-OneTitle : goal.shape_of-out-in-OneTitle
shape_of-out-in-OneTitle c = omega arith

pub returns-in-OneTitle : goal.returns-in-OneTitle
unfolding ascii tab expected_text
returns-in-OneTitle c = record { wrote = as-text (ap expected_text (sym c.in-OneTitle.is)) c.put_text-in-OneTitle.ensures; upper_bound = omega (arith, c.put_text-in-OneTitle.ensures.until) }

pub shape_of-out-in-OneTolerance : goal.shape_of-out-in-OneTolerance
shape_of-out-in-OneTolerance c = omega arith

pub returns-in-OneTolerance : goal.returns-in-OneTolerance
unfolding ascii tab expected_text
returns-in-OneTolerance c = record { wrote = as-text (ap expected_text (sym c.in-OneTolerance.is)) c.put_text-in-OneTolerance.ensures; upper_bound = omega (arith, c.put_text-in-OneTolerance.ensures.until) }

pub shape_of-out-in-Late : goal.shape_of-out-in-Late
shape_of-out-in-Late c = omega arith

pub returns-in-Late : goal.returns-in-Late
unfolding ascii tab expected_text
returns-in-Late c = record { wrote = as-text (ap expected_text (sym c.in-Late.is)) c.put_text-in-Late.ensures; upper_bound = omega (arith, c.put_text-in-Late.ensures.until) }

pub shape_of-out-in-FewItems : goal.shape_of-out-in-FewItems
shape_of-out-in-FewItems c = omega arith

pub returns-in-FewItems : goal.returns-in-FewItems
unfolding ascii tab expected_text
returns-in-FewItems c = record { wrote = as-text (ap expected_text (sym c.in-FewItems.is)) c.put_text-in-FewItems.ensures; upper_bound = omega (arith, c.put_text-in-FewItems.ensures.until) }

pub shape_of-out-in-MeterBefore : goal.shape_of-out-in-MeterBefore
shape_of-out-in-MeterBefore c = omega arith

pub returns-in-MeterBefore : goal.returns-in-MeterBefore
unfolding ascii tab expected_text
returns-in-MeterBefore c = record { wrote = as-text (ap expected_text (sym c.in-MeterBefore.is)) c.put_text-in-MeterBefore.ensures; upper_bound = omega (arith, c.put_text-in-MeterBefore.ensures.until) }

pub shape_of-out-in-FewBalances : goal.shape_of-out-in-FewBalances
shape_of-out-in-FewBalances c = omega arith

pub returns-in-FewBalances : goal.returns-in-FewBalances
unfolding ascii tab expected_text
returns-in-FewBalances c = record { wrote = as-text (ap expected_text (sym c.in-FewBalances.is)) c.put_text-in-FewBalances.ensures; upper_bound = omega (arith, c.put_text-in-FewBalances.ensures.until) }

pub shape_of-out-in-FewLimits : goal.shape_of-out-in-FewLimits
shape_of-out-in-FewLimits c = omega arith

pub returns-in-FewLimits : goal.returns-in-FewLimits
unfolding ascii tab expected_text
returns-in-FewLimits c = record { wrote = as-text (ap expected_text (sym c.in-FewLimits.is)) c.put_text-in-FewLimits.ensures; upper_bound = omega (arith, c.put_text-in-FewLimits.ensures.until) }

pub shape_of-out-in-FewDoubts : goal.shape_of-out-in-FewDoubts
shape_of-out-in-FewDoubts c = omega arith

pub returns-in-FewDoubts : goal.returns-in-FewDoubts
unfolding ascii tab expected_text
returns-in-FewDoubts c = record { wrote = as-text (ap expected_text (sym c.in-FewDoubts.is)) c.put_text-in-FewDoubts.ensures; upper_bound = omega (arith, c.put_text-in-FewDoubts.ensures.until) }

pub shape_of-out-in-Text : goal.shape_of-out-in-Text
shape_of-out-in-Text c = omega arith

pub returns-in-Text : goal.returns-in-Text
unfolding ascii tab expected_text
returns-in-Text c = record { wrote = as-text (ap expected_text (sym c.in-Text.is)) c.put_text-in-Text.ensures; upper_bound = omega (arith, c.put_text-in-Text.ensures.until) }

pub shape_of-out-in_default : goal.shape_of-out-in_default
shape_of-out-in_default c = omega arith

pub returns-in_default : goal.returns-in_default
returns-in_default c = c.put_expected_part.ensures
