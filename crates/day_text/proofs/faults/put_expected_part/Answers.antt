-- `put_expected_part`: the words of each case.
use mathlib.Core.Path.{sym, ap}
use native.Mathlib.Omega.{arith}
use Rattle.ascii.proofs.Writing.{as-text}
use Rattle.ascii.specs.Text.{ascii}
use Rattle.day_text.proofs.Expecting.{from-term}
use Rattle.day_text.specs.Refusals.{expected_text}
use Rattle.numbers.specs.Numbers.{tab}
use borrow.Enum.Refused.{opened}
use Rattle.day_text.proofs.faults.put_expected_part.Goals as goal

pub put_text-requires : goal.put_text-requires
put_text-requires c = omega (arith, c.requires.0)

pub put_text-requires-in-ShortName : goal.put_text-requires-in-ShortName
put_text-requires-in-ShortName c = omega (arith, c.requires.0)

pub put_text-requires-in-PlainName : goal.put_text-requires-in-PlainName
put_text-requires-in-PlainName c = omega (arith, c.requires.0)

pub put_text-requires-in-NewName : goal.put_text-requires-in-NewName
put_text-requires-in-NewName c = omega (arith, c.requires.0)

pub put_text-requires-in-OneName : goal.put_text-requires-in-OneName
put_text-requires-in-OneName c = omega (arith, c.requires.0)

pub put_text-requires-in-Reading : goal.put_text-requires-in-Reading
put_text-requires-in-Reading c = omega (arith, c.requires.0)

pub put_text-requires-in-Decimal : goal.put_text-requires-in-Decimal
put_text-requires-in-Decimal c = omega (arith, c.requires.0)

pub put_text-requires-in-Above : goal.put_text-requires-in-Above
put_text-requires-in-Above c = omega (arith, c.requires.0)

pub put_text-requires-in-NotBelow : goal.put_text-requires-in-NotBelow
put_text-requires-in-NotBelow c = omega (arith, c.requires.0)

pub put_text-requires-in-End : goal.put_text-requires-in-End
put_text-requires-in-End c = omega (arith, c.requires.0)

pub put_expected_term-requires : goal.put_expected_term-requires
put_expected_term-requires c = (omega (arith, c.requires.0), from-term _ (opened c.in_default.in_default-own.keys11) c.requires.1)

pub shape_of-out-in-Name : goal.shape_of-out-in-Name
shape_of-out-in-Name c = omega arith

pub returns-in-Name : goal.returns-in-Name
unfolding ascii tab expected_text
returns-in-Name c = record { wrote = as-text (ap expected_text (sym c.in-Name.is)) c.put_text.ensures; upper_bound = omega (arith, c.put_text.ensures.until) }

pub shape_of-out-in-ShortName : goal.shape_of-out-in-ShortName
shape_of-out-in-ShortName c = omega arith

pub returns-in-ShortName : goal.returns-in-ShortName
unfolding ascii tab expected_text
returns-in-ShortName c = record { wrote = as-text (ap expected_text (sym c.in-ShortName.is)) c.put_text-in-ShortName.ensures; upper_bound = omega (arith, c.put_text-in-ShortName.ensures.until) }

pub shape_of-out-in-PlainName : goal.shape_of-out-in-PlainName
shape_of-out-in-PlainName c = omega arith

pub returns-in-PlainName : goal.returns-in-PlainName
unfolding ascii tab expected_text
returns-in-PlainName c = record { wrote = as-text (ap expected_text (sym c.in-PlainName.is)) c.put_text-in-PlainName.ensures; upper_bound = omega (arith, c.put_text-in-PlainName.ensures.until) }

pub shape_of-out-in-NewName : goal.shape_of-out-in-NewName
shape_of-out-in-NewName c = omega arith

pub returns-in-NewName : goal.returns-in-NewName
unfolding ascii tab expected_text
returns-in-NewName c = record { wrote = as-text (ap expected_text (sym c.in-NewName.is)) c.put_text-in-NewName.ensures; upper_bound = omega (arith, c.put_text-in-NewName.ensures.until) }

pub shape_of-out-in-OneName : goal.shape_of-out-in-OneName
shape_of-out-in-OneName c = omega arith

pub returns-in-OneName : goal.returns-in-OneName
unfolding ascii tab expected_text
returns-in-OneName c = record { wrote = as-text (ap expected_text (sym c.in-OneName.is)) c.put_text-in-OneName.ensures; upper_bound = omega (arith, c.put_text-in-OneName.ensures.until) }

pub shape_of-out-in-Reading : goal.shape_of-out-in-Reading
shape_of-out-in-Reading c = omega arith

pub returns-in-Reading : goal.returns-in-Reading
unfolding ascii tab expected_text
returns-in-Reading c = record { wrote = as-text (ap expected_text (sym c.in-Reading.is)) c.put_text-in-Reading.ensures; upper_bound = omega (arith, c.put_text-in-Reading.ensures.until) }

pub shape_of-out-in-Decimal : goal.shape_of-out-in-Decimal
shape_of-out-in-Decimal c = omega arith

pub returns-in-Decimal : goal.returns-in-Decimal
unfolding ascii tab expected_text
returns-in-Decimal c = record { wrote = as-text (ap expected_text (sym c.in-Decimal.is)) c.put_text-in-Decimal.ensures; upper_bound = omega (arith, c.put_text-in-Decimal.ensures.until) }

pub shape_of-out-in-Above : goal.shape_of-out-in-Above
shape_of-out-in-Above c = omega arith

pub returns-in-Above : goal.returns-in-Above
unfolding ascii tab expected_text
returns-in-Above c = record { wrote = as-text (ap expected_text (sym c.in-Above.is)) c.put_text-in-Above.ensures; upper_bound = omega (arith, c.put_text-in-Above.ensures.until) }

pub shape_of-out-in-NotBelow : goal.shape_of-out-in-NotBelow
shape_of-out-in-NotBelow c = omega arith

pub returns-in-NotBelow : goal.returns-in-NotBelow
unfolding ascii tab expected_text
returns-in-NotBelow c = record { wrote = as-text (ap expected_text (sym c.in-NotBelow.is)) c.put_text-in-NotBelow.ensures; upper_bound = omega (arith, c.put_text-in-NotBelow.ensures.until) }

pub shape_of-out-in-End : goal.shape_of-out-in-End
shape_of-out-in-End c = omega arith

pub returns-in-End : goal.returns-in-End
unfolding ascii tab expected_text
returns-in-End c = record { wrote = as-text (ap expected_text (sym c.in-End.is)) c.put_text-in-End.ensures; upper_bound = omega (arith, c.put_text-in-End.ensures.until) }

pub shape_of-out-in_default : goal.shape_of-out-in_default
shape_of-out-in_default c = omega arith

pub returns-in_default : goal.returns-in_default
returns-in_default c = c.put_expected_term.ensures
