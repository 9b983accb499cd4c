-- `put_reason`: by the number.
use native.Mathlib.Omega.{arith}
use borrow.Author.Tests.{eq-eqb, ne_eqb}
use Rattle.ascii.proofs.Writing.{wrote_then}
use Rattle.ascii.specs.Text.{ascii}
use Rattle.day_text.specs.Refusals.{reason_text}
use Rattle.numbers.specs.Numbers.{tab}
use Rattle.day_text.proofs.refusals.put_reason.Goals as goal

pub put_plain-requires : goal.put_plain-requires
put_plain-requires c = omega (arith, c.requires.0)

pub shape_of-out-then-number-ne11 : goal.shape_of-out-then-number-ne11
shape_of-out-then-number-ne11 c = omega arith

pub returns-then-number-ne11 : goal.returns-then-number-ne11
unfolding reason_text
returns-then-number-ne11 c = record { wrote = rw (ne_eqb _ _ c.if-number-ne11.true) c.put_plain.ensures.wrote; upper_bound = omega (arith, c.put_plain.ensures.upper_bound) }

pub put_balance_name-a-requires : goal.put_balance_name-a-requires
put_balance_name-a-requires c = (omega (arith, c.requires.0), c.requires.1)

pub put_text-requires : goal.put_text-requires
put_text-requires c = omega (arith, c.put_balance_name-a.ensures.upper_bound, c.requires.0)

pub shape_of-out : goal.shape_of-out
shape_of-out c = omega arith

pub returns : goal.returns
unfolding ascii tab reason_text
returns c = record { wrote = rw (eq-eqb _ _ c.if-number-ne11.false) (wrote_then c.put_balance_name-a.ensures.wrote c.put_text.ensures); upper_bound = omega (arith, c.put_text.ensures.until, c.put_balance_name-a.ensures.upper_bound) }
