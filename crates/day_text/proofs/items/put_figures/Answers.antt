-- `put_figures`: its parts one after the other.
use native.Mathlib.Omega.{arith}
use Rattle.ascii.proofs.Writing.{wrote_then}
use Rattle.day_text.specs.Items.{figures_text}
use Rattle.day_text.proofs.items.put_figures.Goals as goal

pub offset_bounds-figures-i : goal.offset_bounds-figures-i
offset_bounds-figures-i c = omega (arith, c.requires.1)

pub bounds-figures-i : goal.bounds-figures-i
bounds-figures-i c = omega (arith, c.requires.1, c.requires.2, c.requires.3)

pub overflow_add-i : goal.overflow_add-i
overflow_add-i c = omega (arith, c.requires.1)

pub offset_bounds-figures-i-2 : goal.offset_bounds-figures-i-2
offset_bounds-figures-i-2 c = omega (arith, c.requires.1)

pub bounds-figures-i-2 : goal.bounds-figures-i-2
bounds-figures-i-2 c = omega (arith, c.requires.1, c.requires.2, c.requires.3)

pub overflow_add-i-2 : goal.overflow_add-i-2
overflow_add-i-2 c = omega (arith, c.requires.1)

pub offset_bounds-figures-i-3 : goal.offset_bounds-figures-i-3
offset_bounds-figures-i-3 c = omega (arith, c.requires.1)

pub bounds-figures-i-3 : goal.bounds-figures-i-3
bounds-figures-i-3 c = omega (arith, c.requires.1, c.requires.2, c.requires.3)

pub offset_bounds-numbers-i : goal.offset_bounds-numbers-i
offset_bounds-numbers-i c = omega (arith, c.requires.1)

pub bounds-numbers-i : goal.bounds-numbers-i
bounds-numbers-i c = omega (arith, c.requires.1, c.requires.2, c.requires.3)

pub put_volumes-a-requires : goal.put_volumes-a-requires
put_volumes-a-requires c = omega (arith, c.requires.0)

pub overflow_add-i-3 : goal.overflow_add-i-3
overflow_add-i-3 c = omega (arith, c.requires.1)

pub offset_bounds-figures-i-4 : goal.offset_bounds-figures-i-4
offset_bounds-figures-i-4 c = omega (arith, c.requires.1)

pub bounds-figures-i-4 : goal.bounds-figures-i-4
bounds-figures-i-4 c = omega (arith, c.requires.1, c.requires.2, c.requires.3)

pub put_number-requires : goal.put_number-requires
put_number-requires c = omega (arith, c.put_volumes-a.ensures.upper_bound, c.requires.0)

pub shape_of-out : goal.shape_of-out
shape_of-out c = omega arith

pub returns : goal.returns
unfolding figures_text
returns c = record { wrote = wrote_then c.put_volumes-a.ensures.wrote c.put_number.ensures.wrote; upper_bound = omega (arith, c.put_number.ensures.upper_bound, c.put_volumes-a.ensures.upper_bound) }
