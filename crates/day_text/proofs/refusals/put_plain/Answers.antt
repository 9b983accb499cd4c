-- `put_plain`: each number its text.
use native.Mathlib.Omega.{arith}
use borrow.Author.Tests.{eq-eqb, ne_eqb}
use Rattle.ascii.specs.Text.{ascii}
use Rattle.day_text.specs.Refusals.{plain_text}
use Rattle.numbers.specs.Numbers.{tab}
use Rattle.day_text.proofs.refusals.put_plain.Goals as goal

pub put_text-requires : goal.put_text-requires
put_text-requires c = omega (arith, c.requires)

pub shape_of-out-then-number-eq5 : goal.shape_of-out-then-number-eq5
shape_of-out-then-number-eq5 c = omega arith

pub returns-then-number-eq5 : goal.returns-then-number-eq5
unfolding ascii tab plain_text
returns-then-number-eq5 c = record { wrote = rw (eq-eqb _ _ c.if-number-eq5.true) c.put_text.ensures; upper_bound = omega (arith, c.put_text.ensures.until) }

pub put_text-requires-then-number-eq6 : goal.put_text-requires-then-number-eq6
put_text-requires-then-number-eq6 c = omega (arith, c.requires)

pub shape_of-out-then-number-eq6 : goal.shape_of-out-then-number-eq6
shape_of-out-then-number-eq6 c = omega arith

pub returns-then-number-eq6 : goal.returns-then-number-eq6
unfolding ascii tab plain_text
returns-then-number-eq6 c = record { wrote = rw (ne_eqb _ _ c.if-number-eq5.false, eq-eqb _ _ c.if-number-eq6.true) c.put_text-then-number-eq6.ensures; upper_bound = omega (arith, c.put_text-then-number-eq6.ensures.until) }

pub put_text-requires-then-number-eq7 : goal.put_text-requires-then-number-eq7
put_text-requires-then-number-eq7 c = omega (arith, c.requires)

pub shape_of-out-then-number-eq7 : goal.shape_of-out-then-number-eq7
shape_of-out-then-number-eq7 c = omega arith

pub returns-then-number-eq7 : goal.returns-then-number-eq7
unfolding ascii tab plain_text
returns-then-number-eq7 c = record { wrote = rw (ne_eqb _ _ c.if-number-eq5.false, ne_eqb _ _ c.if-number-eq6.false, eq-eqb _ _ c.if-number-eq7.true) c.put_text-then-number-eq7.ensures; upper_bound = omega (arith, c.put_text-then-number-eq7.ensures.until) }

pub put_text-requires-2 : goal.put_text-requires-2
put_text-requires-2 c = omega (arith, c.requires)

pub shape_of-out : goal.shape_of-out
shape_of-out c = omega arith

pub returns : goal.returns
unfolding ascii tab plain_text
returns c = record { wrote = rw (ne_eqb _ _ c.if-number-eq5.false, ne_eqb _ _ c.if-number-eq6.false, ne_eqb _ _ c.if-number-eq7.false) c.put_text-2.ensures; upper_bound = omega (arith, c.put_text-2.ensures.until) }
