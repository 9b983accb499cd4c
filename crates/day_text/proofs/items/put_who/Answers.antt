-- `put_who`: its parts one after the other.
use native.Mathlib.Omega.{arith}
use Rattle.ascii.proofs.Writing.{wrote_then}
use Rattle.ascii.specs.Text.{ascii}
use Rattle.day_text.specs.Items.{who_text}
use Rattle.numbers.specs.Numbers.{tab}
use Rattle.day_text.proofs.items.put_who.Goals as goal

pub put_cell-a-requires : goal.put_cell-a-requires
put_cell-a-requires c = (omega (arith, c.requires.0), c.requires.2, omega (arith, c.requires.1))

pub put_byte-b-requires : goal.put_byte-b-requires
put_byte-b-requires c = omega (arith, c.put_cell-a.ensures.upper_bound, c.requires.0)

pub overflow_add-i : goal.overflow_add-i
overflow_add-i c = omega (arith, c.requires.1)

pub offset_bounds-wholes-i : goal.offset_bounds-wholes-i
offset_bounds-wholes-i c = omega (arith, c.requires.1)

pub bounds-wholes-i : goal.bounds-wholes-i
bounds-wholes-i c = omega (arith, c.requires.1, c.requires.2, c.requires.3)

pub put_kind-requires : goal.put_kind-requires
put_kind-requires c = omega (arith, c.put_byte-b.ensures.until, c.put_cell-a.ensures.upper_bound, c.requires.0)

pub shape_of-out : goal.shape_of-out
shape_of-out c = omega arith

pub returns : goal.returns
unfolding ascii tab who_text
returns c = record { wrote = wrote_then c.put_cell-a.ensures.wrote (wrote_then c.put_byte-b.ensures c.put_kind.ensures.wrote); upper_bound = omega (arith, c.put_kind.ensures.upper_bound, c.put_byte-b.ensures.until, c.put_cell-a.ensures.upper_bound) }
