-- `put_also`: the part, or a comma, a blank and the part.
use native.Mathlib.Omega.{arith}
use Rattle.numbers.specs.Numbers.{tab}
use Rattle.ascii.specs.Text.{ascii}
use Rattle.ascii.proofs.Writing.{wrote_then, as-text}
use Rattle.plant_text.proofs.Texts.{also-first, also-later}
use Rattle.plant_text.proofs.put_also.Goals as goal

pub put_text-requires : goal.put_text-requires
put_text-requires c = omega (arith, c.requires.0)

pub shape_of-out-then-at-eq0 : goal.shape_of-out-then-at-eq0
shape_of-out-then-at-eq0 c = omega arith

pub returns-then-at-eq0 : goal.returns-then-at-eq0
returns-then-at-eq0 c = let a = c.args in record { wrote = as-text (also-first a.at a.part.now c.if-at-eq0.true) c.put_text.ensures; upper_bound = omega (arith, c.put_text.ensures.until) }

pub put_text-a-requires : goal.put_text-a-requires
put_text-a-requires c = omega (arith, c.requires.0)

pub put_text-requires-2 : goal.put_text-requires-2
put_text-requires-2 c = omega (arith, c.put_text-a.ensures.until, c.requires.0)

pub shape_of-out : goal.shape_of-out
shape_of-out c = omega arith

pub returns : goal.returns
unfolding ascii tab
returns c = let a = c.args in record { wrote = as-text (also-later a.at a.part.now c.if-at-eq0.false c.requires.1) (wrote_then c.put_text-a.ensures c.put_text-2.ensures); upper_bound = omega (arith, c.put_text-2.ensures.until, c.put_text-a.ensures.until) }
