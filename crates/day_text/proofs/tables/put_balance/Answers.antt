-- `put_balance`: its parts one after the other.
use native.Mathlib.Omega.{arith}
use Rattle.ascii.proofs.Writing.{wrote_then}
use Rattle.day_text.specs.Tables.{balance_row}
use Rattle.day_text.proofs.tables.put_balance.Goals as goal

pub overflow_add-j : goal.overflow_add-j
overflow_add-j c = omega (arith, c.requires.1)

pub put_cell-a-requires : goal.put_cell-a-requires
put_cell-a-requires c = (omega (arith, c.requires.0), c.requires.2, omega (arith, c.requires.1))

pub overflow_add-j-2 : goal.overflow_add-j-2
overflow_add-j-2 c = omega (arith, c.requires.1)

pub offset_bounds-figures-j : goal.offset_bounds-figures-j
offset_bounds-figures-j c = omega (arith, c.requires.1)

pub bounds-figures-j : goal.bounds-figures-j
bounds-figures-j c = omega (arith, c.requires.1, c.requires.2, c.requires.3, c.requires.4)

pub put_number-b-requires : goal.put_number-b-requires
put_number-b-requires c = omega (arith, c.put_cell-a.ensures.upper_bound, c.requires.0)

pub overflow_add-j-3 : goal.overflow_add-j-3
overflow_add-j-3 c = omega (arith, c.requires.1)

pub offset_bounds-figures-j-2 : goal.offset_bounds-figures-j-2
offset_bounds-figures-j-2 c = omega (arith, c.requires.1)

pub bounds-figures-j-2 : goal.bounds-figures-j-2
bounds-figures-j-2 c = omega (arith, c.requires.1, c.requires.2, c.requires.3, c.requires.4)

pub put_number-c-requires : goal.put_number-c-requires
put_number-c-requires c = omega (arith, c.put_number-b.ensures.upper_bound, c.put_cell-a.ensures.upper_bound, c.requires.0)

pub overflow_add-j-4 : goal.overflow_add-j-4
overflow_add-j-4 c = omega (arith, c.requires.1)

pub offset_bounds-signs-j : goal.offset_bounds-signs-j
offset_bounds-signs-j c = omega (arith, c.requires.1)

pub bounds-signs-j : goal.bounds-signs-j
bounds-signs-j c = omega (arith, c.requires.1, c.requires.2, c.requires.3, c.requires.4)

pub put_within-requires : goal.put_within-requires
put_within-requires c = omega (arith, c.put_number-c.ensures.upper_bound, c.put_number-b.ensures.upper_bound, c.put_cell-a.ensures.upper_bound, c.requires.0)

pub shape_of-out : goal.shape_of-out
shape_of-out c = omega arith

pub returns : goal.returns
unfolding balance_row
returns c = record { wrote = wrote_then c.put_cell-a.ensures.wrote (wrote_then c.put_number-b.ensures.wrote (wrote_then c.put_number-c.ensures.wrote c.put_within.ensures.wrote)); upper_bound = omega (arith, c.put_within.ensures.upper_bound, c.put_number-c.ensures.upper_bound, c.put_number-b.ensures.upper_bound, c.put_cell-a.ensures.upper_bound) }
