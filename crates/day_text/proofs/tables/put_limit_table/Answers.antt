-- `put_limit_table`: nothing, or its parts one after the other.
use native.Mathlib.Omega.{arith}
use borrow.Author.Tests.{eq-eqb, ne_eqb}
use Rattle.ascii.proofs.Writing.{wrote_then, wrote_none}
use Rattle.ascii.specs.Text.{ascii}
use Rattle.day_text.specs.Tables.{limit_table}
use Rattle.numbers.specs.Numbers.{tab}
use Rattle.day_text.proofs.tables.put_limit_table.Goals as goal

pub returns-then-q-eq0 : goal.returns-then-q-eq0
unfolding limit_table
returns-then-q-eq0 c = record { wrote = rw (eq-eqb _ _ c.if-q-eq0.true) (wrote_none _ _ (omega (arith, c.requires.0))); upper_bound = omega arith }

pub put_text-a-requires : goal.put_text-a-requires
put_text-a-requires c = omega (arith, c.requires.0)

pub put_limits-b-requires : goal.put_limits-b-requires
put_limits-b-requires c = (omega (arith, c.put_text-a.ensures.until, c.requires.0), omega (arith, c.requires.1), c.requires.2)

pub put_byte-requires : goal.put_byte-requires
put_byte-requires c = omega (arith, c.put_limits-b.ensures.upper_bound, c.put_text-a.ensures.until, c.requires.0)

pub shape_of-out : goal.shape_of-out
shape_of-out c = omega arith

pub returns : goal.returns
unfolding ascii tab limit_table
returns c = record { wrote = rw (ne_eqb _ _ c.if-q-eq0.false) (wrote_then c.put_text-a.ensures (wrote_then c.put_limits-b.ensures.wrote c.put_byte.ensures)); upper_bound = omega (arith, c.put_byte.ensures.until, c.put_limits-b.ensures.upper_bound, c.put_text-a.ensures.until) }
