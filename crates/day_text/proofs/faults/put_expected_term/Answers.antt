-- `put_expected_term`: the words of each case.
use mathlib.Core.Path.{sym, ap}
use native.Mathlib.Omega.{arith}
use Rattle.ascii.proofs.Writing.{as-text}
use Rattle.ascii.specs.Text.{ascii}
use Rattle.day_text.proofs.Expecting.{last-is}
use Rattle.day_text.specs.Refusals.{expected_text}
use Rattle.numbers.specs.Numbers.{tab}
use borrow.Enum.Refused.{opened}
use Rattle.day_text.proofs.faults.put_expected_term.Goals as goal

pub put_text-requires : goal.put_text-requires
put_text-requires c = omega (arith, c.requires.0)

pub put_text-requires-in-OneEquals : goal.put_text-requires-in-OneEquals
put_text-requires-in-OneEquals c = omega (arith, c.requires.0)

pub put_text-requires-in-NoEquals : goal.put_text-requires-in-NoEquals
put_text-requires-in-NoEquals c = omega (arith, c.requires.0)

pub put_text-requires-in-ApartEquals : goal.put_text-requires-in-ApartEquals
put_text-requires-in-ApartEquals c = omega (arith, c.requires.0)

pub put_text-requires-in-NoSign : goal.put_text-requires-in-NoSign
put_text-requires-in-NoSign c = omega (arith, c.requires.0)

pub put_text-requires-in-Coefficient : goal.put_text-requires-in-Coefficient
put_text-requires-in-Coefficient c = omega (arith, c.requires.0)

pub put_text-requires-in-TermName : goal.put_text-requires-in-TermName
put_text-requires-in-TermName c = omega (arith, c.requires.0)

pub put_text-requires-in-SameCapitals : goal.put_text-requires-in-SameCapitals
put_text-requires-in-SameCapitals c = omega (arith, c.requires.0)

pub put_text-requires-in-Given : goal.put_text-requires-in-Given
put_text-requires-in-Given c = omega (arith, c.requires.0)

pub put_text-requires-in-Once : goal.put_text-requires-in-Once
put_text-requires-in-Once c = omega (arith, c.requires.0)

pub put_text-requires-in-TitleLine : goal.put_text-requires-in-TitleLine
put_text-requires-in-TitleLine c = omega (arith, c.requires.0)

pub put_text-requires-in-MeterLine : goal.put_text-requires-in-MeterLine
put_text-requires-in-MeterLine c = omega (arith, c.requires.0)

pub put_text-requires-in-BalanceLine : goal.put_text-requires-in-BalanceLine
put_text-requires-in-BalanceLine c = omega (arith, c.requires.0)

pub put_text-requires-in_default : goal.put_text-requires-in_default
put_text-requires-in_default c = omega (arith, c.requires.0)

pub shape_of-out-in-Equals : goal.shape_of-out-in-Equals
shape_of-out-in-Equals c = omega arith

pub returns-in-Equals : goal.returns-in-Equals
unfolding ascii tab expected_text
returns-in-Equals c = record { wrote = as-text (ap expected_text (sym c.in-Equals.is)) c.put_text.ensures; upper_bound = omega (arith, c.put_text.ensures.until) }

pub shape_of-out-in-OneEquals : goal.shape_of-out-in-OneEquals
shape_of-out-in-OneEquals c = omega arith

pub returns-in-OneEquals : goal.returns-in-OneEquals
unfolding ascii tab expected_text
returns-in-OneEquals c = record { wrote = as-text (ap expected_text (sym c.in-OneEquals.is)) c.put_text-in-OneEquals.ensures; upper_bound = omega (arith, c.put_text-in-OneEquals.ensures.until) }

pub shape_of-out-in-NoEquals : goal.shape_of-out-in-NoEquals
shape_of-out-in-NoEquals c = omega arith

pub returns-in-NoEquals : goal.returns-in-NoEquals
unfolding ascii tab expected_text
returns-in-NoEquals c = record { wrote = as-text (ap expected_text (sym c.in-NoEquals.is)) c.put_text-in-NoEquals.ensures; upper_bound = omega (arith, c.put_text-in-NoEquals.ensures.until) }

pub shape_of-out-in-ApartEquals : goal.shape_of-out-in-ApartEquals
shape_of-out-in-ApartEquals c = omega arith

pub returns-in-ApartEquals : goal.returns-in-ApartEquals
unfolding ascii tab expected_text
returns-in-ApartEquals c = record { wrote = as-text (ap expected_text (sym c.in-ApartEquals.is)) c.put_text-in-ApartEquals.ensures; upper_bound = omega (arith, c.put_text-in-ApartEquals.ensures.until) }

pub shape_of-out-in-NoSign : goal.shape_of-out-in-NoSign
shape_of-out-in-NoSign c = omega arith

pub returns-in-NoSign : goal.returns-in-NoSign
unfolding ascii tab expected_text
returns-in-NoSign c = record { wrote = as-text (ap expected_text (sym c.in-NoSign.is)) c.put_text-in-NoSign.ensures; upper_bound = omega (arith, c.put_text-in-NoSign.ensures.until) }

pub shape_of-out-in-Coefficient : goal.shape_of-out-in-Coefficient
shape_of-out-in-Coefficient c = omega arith

pub returns-in-Coefficient : goal.returns-in-Coefficient
unfolding ascii tab expected_text
returns-in-Coefficient c = record { wrote = as-text (ap expected_text (sym c.in-Coefficient.is)) c.put_text-in-Coefficient.ensures; upper_bound = omega (arith, c.put_text-in-Coefficient.ensures.until) }

pub shape_of-out-in-TermName : goal.shape_of-out-in-TermName
shape_of-out-in-TermName c = omega arith

pub returns-in-TermName : goal.returns-in-TermName
unfolding ascii tab expected_text
returns-in-TermName c = record { wrote = as-text (ap expected_text (sym c.in-TermName.is)) c.put_text-in-TermName.ensures; upper_bound = omega (arith, c.put_text-in-TermName.ensures.until) }

pub shape_of-out-in-SameCapitals : goal.shape_of-out-in-SameCapitals
shape_of-out-in-SameCapitals c = omega arith

pub returns-in-SameCapitals : goal.returns-in-SameCapitals
unfolding ascii tab expected_text
returns-in-SameCapitals c = record { wrote = as-text (ap expected_text (sym c.in-SameCapitals.is)) c.put_text-in-SameCapitals.ensures; upper_bound = omega (arith, c.put_text-in-SameCapitals.ensures.until) }

pub shape_of-out-in-Given : goal.shape_of-out-in-Given
shape_of-out-in-Given c = omega arith

pub returns-in-Given : goal.returns-in-Given
unfolding ascii tab expected_text
returns-in-Given c = record { wrote = as-text (ap expected_text (sym c.in-Given.is)) c.put_text-in-Given.ensures; upper_bound = omega (arith, c.put_text-in-Given.ensures.until) }

pub shape_of-out-in-Once : goal.shape_of-out-in-Once
shape_of-out-in-Once c = omega arith

pub returns-in-Once : goal.returns-in-Once
unfolding ascii tab expected_text
returns-in-Once c = record { wrote = as-text (ap expected_text (sym c.in-Once.is)) c.put_text-in-Once.ensures; upper_bound = omega (arith, c.put_text-in-Once.ensures.until) }

pub shape_of-out-in-TitleLine : goal.shape_of-out-in-TitleLine
shape_of-out-in-TitleLine c = omega arith

pub returns-in-TitleLine : goal.returns-in-TitleLine
unfolding ascii tab expected_text
returns-in-TitleLine c = record { wrote = as-text (ap expected_text (sym c.in-TitleLine.is)) c.put_text-in-TitleLine.ensures; upper_bound = omega (arith, c.put_text-in-TitleLine.ensures.until) }

pub shape_of-out-in-MeterLine : goal.shape_of-out-in-MeterLine
shape_of-out-in-MeterLine c = omega arith

pub returns-in-MeterLine : goal.returns-in-MeterLine
unfolding ascii tab expected_text
returns-in-MeterLine c = record { wrote = as-text (ap expected_text (sym c.in-MeterLine.is)) c.put_text-in-MeterLine.ensures; upper_bound = omega (arith, c.put_text-in-MeterLine.ensures.until) }

pub shape_of-out-in-BalanceLine : goal.shape_of-out-in-BalanceLine
shape_of-out-in-BalanceLine c = omega arith

pub returns-in-BalanceLine : goal.returns-in-BalanceLine
unfolding ascii tab expected_text
returns-in-BalanceLine c = record { wrote = as-text (ap expected_text (sym c.in-BalanceLine.is)) c.put_text-in-BalanceLine.ensures; upper_bound = omega (arith, c.put_text-in-BalanceLine.ensures.until) }

pub shape_of-out-in_default : goal.shape_of-out-in_default
shape_of-out-in_default c = omega arith

pub returns-in_default : goal.returns-in_default
unfolding ascii tab
returns-in_default c = record { wrote = as-text (last-is _ (opened c.in_default.in_default-own.keys14) c.requires.1) c.put_text-in_default.ensures; upper_bound = omega (arith, c.put_text-in_default.ensures.until) }
