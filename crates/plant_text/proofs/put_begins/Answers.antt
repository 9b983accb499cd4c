-- `put_begins`: late, early, or neither.
use native.Mathlib.Omega.{arith}
use mathlib.Core.Path.{sym}
use Rattle.numbers.specs.Numbers.{tab}
use Rattle.ascii.specs.Text.{ascii}
use Rattle.ascii.proofs.Writing.{wrote_none, as-text}
use Rattle.plant_text.proofs.Texts.{begins-late, begins-early, begins-well}
use Rattle.plant_text.proofs.put_begins.Goals as goal

pub put_text-requires : goal.put_text-requires
put_text-requires c = omega (arith, c.requires)

pub shape_of-out-then-start-from : goal.shape_of-out-then-start-from
shape_of-out-then-start-from c = omega arith

pub returns-then-start-from : goal.returns-then-start-from
unfolding ascii tab
returns-then-start-from c = let a = c.args in record { wrote = as-text (begins-late a.start a.from c.if-start-from.true) c.put_text.ensures; upper_bound = omega (arith, c.put_text.ensures.until) }

pub put_text-requires-then-from-start : goal.put_text-requires-then-from-start
put_text-requires-then-from-start c = omega (arith, c.requires)

pub shape_of-out-then-from-start : goal.shape_of-out-then-from-start
shape_of-out-then-from-start c = omega arith

pub returns-then-from-start : goal.returns-then-from-start
unfolding ascii tab
returns-then-from-start c = let a = c.args in record { wrote = as-text (begins-early a.start a.from c.if-from-start.true) c.put_text-then-from-start.ensures; upper_bound = omega (arith, c.put_text-then-from-start.ensures.until) }

pub returns : goal.returns
returns c = let a = c.args in record { wrote = as-text (sym (begins-well a.start a.from (omega (arith, c.if-start-from.false)) (omega (arith, c.if-from-start.false)))) (wrote_none a.out.now 0 (omega arith)); upper_bound = omega arith }
