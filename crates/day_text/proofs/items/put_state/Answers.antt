-- `put_state`: by its kind.
use native.Mathlib.Omega.{arith}
use borrow.Author.Tests.{eq-eqb, ne_eqb}
use Rattle.ascii.specs.Text.{ascii, padded}
use Rattle.day_text.specs.Items.{state_cell}
use Rattle.numbers.specs.Numbers.{tab}
use Rattle.day_text.proofs.items.put_state.Goals as goal

pub put_reading-requires : goal.put_reading-requires
put_reading-requires c = omega (arith, c.requires)

pub shape_of-out-then-kind-eq0 : goal.shape_of-out-then-kind-eq0
shape_of-out-then-kind-eq0 c = omega arith

pub returns-then-kind-eq0 : goal.returns-then-kind-eq0
unfolding ascii tab padded state_cell
returns-then-kind-eq0 c = record { wrote = rw (eq-eqb _ _ c.if-kind-eq0.true) c.put_reading.ensures.wrote; upper_bound = omega (arith, c.put_reading.ensures.upper_bound) }

pub put_text-requires : goal.put_text-requires
put_text-requires c = omega (arith, c.requires)

pub shape_of-out-then-kind-eq1 : goal.shape_of-out-then-kind-eq1
shape_of-out-then-kind-eq1 c = omega arith

pub returns-then-kind-eq1 : goal.returns-then-kind-eq1
unfolding ascii tab padded state_cell
returns-then-kind-eq1 c = record { wrote = rw (ne_eqb _ _ c.if-kind-eq0.false, eq-eqb _ _ c.if-kind-eq1.true) c.put_text.ensures; upper_bound = omega (arith, c.put_text.ensures.until) }

pub put_number-requires : goal.put_number-requires
put_number-requires c = omega (arith, c.requires)

pub shape_of-out : goal.shape_of-out
shape_of-out c = omega arith

pub returns : goal.returns
unfolding ascii tab padded state_cell
returns c = record { wrote = rw (ne_eqb _ _ c.if-kind-eq0.false, ne_eqb _ _ c.if-kind-eq1.false) c.put_number.ensures.wrote; upper_bound = omega (arith, c.put_number.ensures.upper_bound) }
