-- `put_item`: its parts one after the other.
use native.Mathlib.Omega.{arith}
use Rattle.ascii.proofs.Writing.{wrote_then}
use Rattle.ascii.specs.Text.{ascii}
use Rattle.day_text.specs.Items.{item_row}
use Rattle.numbers.specs.Numbers.{tab}
use Rattle.day_text.proofs.items.put_item.Goals as goal

pub put_who-a-requires : goal.put_who-a-requires
put_who-a-requires c = (omega (arith, c.requires.0), omega (arith, c.requires.1), c.requires.2, c.requires.3)

pub put_states-b-requires : goal.put_states-b-requires
put_states-b-requires c = (omega (arith, c.put_who-a.ensures.upper_bound, c.requires.0), omega (arith, c.requires.1), c.requires.3, c.requires.4)

pub put_figures-c-requires : goal.put_figures-c-requires
put_figures-c-requires c = (omega (arith, c.put_states-b.ensures.upper_bound, c.put_who-a.ensures.upper_bound, c.requires.0), omega (arith, c.requires.1), c.requires.4, c.requires.5)

pub put_marks-d-requires : goal.put_marks-d-requires
put_marks-d-requires c = (omega (arith, c.put_figures-c.ensures.upper_bound, c.put_states-b.ensures.upper_bound, c.put_who-a.ensures.upper_bound, c.requires.0), omega (arith, c.requires.1), c.requires.3, c.requires.4, c.requires.5, c.requires.6)

pub put_byte-requires : goal.put_byte-requires
put_byte-requires c = omega (arith, c.put_marks-d.ensures.upper_bound, c.put_figures-c.ensures.upper_bound, c.put_states-b.ensures.upper_bound, c.put_who-a.ensures.upper_bound, c.requires.0)

pub shape_of-out : goal.shape_of-out
shape_of-out c = omega arith

pub returns : goal.returns
unfolding ascii tab item_row
returns c = record { wrote = wrote_then c.put_who-a.ensures.wrote (wrote_then c.put_states-b.ensures.wrote (wrote_then c.put_figures-c.ensures.wrote (wrote_then c.put_marks-d.ensures.wrote c.put_byte.ensures))); upper_bound = omega (arith, c.put_byte.ensures.until, c.put_marks-d.ensures.upper_bound, c.put_figures-c.ensures.upper_bound, c.put_states-b.ensures.upper_bound, c.put_who-a.ensures.upper_bound) }
