-- `put_ends`: early, late, or neither.
use native.Mathlib.Omega.{arith}
use mathlib.Core.Path.{ap}
use Rattle.numbers.specs.Numbers.{tab}
use Rattle.ascii.specs.Text.{ascii}
use Rattle.ascii.proofs.Writing.{wrote_none, as-text}
use Rattle.plant_text.specs.inner.Work.{behind}
use Rattle.plant_text.proofs.Texts.{behind-none, ends-early, ends-late, ends-well}
use Rattle.plant_text.proofs.put_ends.Goals as goal

pub put_also-requires : goal.put_also-requires
put_also-requires c = (omega (arith, c.requires), omega arith)

pub shape_of-out-then-to-end : goal.shape_of-out-then-to-end
shape_of-out-then-to-end c = omega arith

pub returns-then-to-end : goal.returns-then-to-end
unfolding ascii tab
returns-then-to-end c = let a = c.args in record { wrote = as-text (ap (behind a.at) (ends-early a.end a.to c.if-to-end.true)) c.put_also.ensures.wrote; upper_bound = omega (arith, c.put_also.ensures.upper_bound) }

pub put_also-requires-then-end-to : goal.put_also-requires-then-end-to
put_also-requires-then-end-to c = (omega (arith, c.requires), omega arith)

pub shape_of-out-then-end-to : goal.shape_of-out-then-end-to
shape_of-out-then-end-to c = omega arith

pub returns-then-end-to : goal.returns-then-end-to
unfolding ascii tab
returns-then-end-to c = let a = c.args in record { wrote = as-text (ap (behind a.at) (ends-late a.end a.to c.if-end-to.true)) c.put_also-then-end-to.ensures.wrote; upper_bound = omega (arith, c.put_also-then-end-to.ensures.upper_bound) }

pub returns : goal.returns
returns c = let a = c.args in record { wrote = as-text (behind-none a.at _ (ends-well a.end a.to (omega (arith, c.if-to-end.false)) (omega (arith, c.if-end-to.false)))) (wrote_none a.out.now a.at (omega arith)); upper_bound = omega arith }
