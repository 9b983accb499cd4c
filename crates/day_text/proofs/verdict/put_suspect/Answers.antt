-- `put_suspect`: nothing, or one more.
use native.Mathlib.Omega.{arith}
use borrow.Author.Tests.{eq-eqb, ne_eqb}
use Rattle.ascii.proofs.Writing.{wrote_then, wrote_none}
use Rattle.ascii.specs.Text.{ascii}
use Rattle.numbers.specs.Numbers.{tab}
use Rattle.day_text.proofs.verdict.put_suspect.Goals as goal

pub offset_bounds-signs-i : goal.offset_bounds-signs-i
offset_bounds-signs-i c = omega (arith, c.requires.1)

pub bounds-signs-i : goal.bounds-signs-i
bounds-signs-i c = omega (arith, c.requires.1, c.requires.2, c.requires.3)

pub returns-then-signs-i-ne2 : goal.returns-then-signs-i-ne2
unfolding ascii tab
returns-then-signs-i-ne2 c = record { wrote = rw (ne_eqb _ _ c.if-signs-i-ne2.true) (wrote_none _ _ (omega (arith, c.requires.0))); upper_bound = omega arith }

pub put_text-a-requires : goal.put_text-a-requires
put_text-a-requires c = omega (arith, c.requires.0)

pub put_name-requires : goal.put_name-requires
put_name-requires c = (omega (arith, c.put_text-a.ensures.until, c.requires.0), c.requires.2, omega (arith, c.requires.1))

pub shape_of-out : goal.shape_of-out
shape_of-out c = omega arith

pub returns : goal.returns
unfolding ascii tab
returns c = record { wrote = rw (eq-eqb _ _ c.if-signs-i-ne2.false) (wrote_then c.put_text-a.ensures c.put_name.ensures.wrote); upper_bound = omega (arith, c.put_name.ensures.upper_bound, c.put_text-a.ensures.until) }
