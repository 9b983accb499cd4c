-- `put_marks`: the marks, or a dash where none was written.
use native.Mathlib.Omega.{arith}
use Rattle.ascii.proofs.Writing.{wrote_then}
use Rattle.ascii.specs.Text.{ascii}
use Rattle.day_text.proofs.Parts.{dash, marked}
use Rattle.day_text.specs.Items.{marks_text}
use Rattle.numbers.specs.Numbers.{tab}
use Rattle.day_text.proofs.items.put_marks.Goals as goal

pub overflow_add-i : goal.overflow_add-i
overflow_add-i c = omega (arith, c.requires.1)

pub offset_bounds-wholes-i : goal.offset_bounds-wholes-i
offset_bounds-wholes-i c = omega (arith, c.requires.1)

pub bounds-wholes-i : goal.bounds-wholes-i
bounds-wholes-i c = omega (arith, c.requires.1, c.requires.2, c.requires.3, c.requires.4, c.requires.5)

pub offset_bounds-wholes-i-2 : goal.offset_bounds-wholes-i-2
offset_bounds-wholes-i-2 c = omega (arith, c.requires.1)

pub bounds-wholes-i-2 : goal.bounds-wholes-i-2
bounds-wholes-i-2 c = omega (arith, c.requires.1, c.requires.2, c.requires.3, c.requires.4, c.requires.5)

pub overflow_add-i-2 : goal.overflow_add-i-2
overflow_add-i-2 c = omega (arith, c.requires.1)

pub offset_bounds-wholes-i-3 : goal.offset_bounds-wholes-i-3
offset_bounds-wholes-i-3 c = omega (arith, c.requires.1)

pub bounds-wholes-i-3 : goal.bounds-wholes-i-3
bounds-wholes-i-3 c = omega (arith, c.requires.1, c.requires.2, c.requires.3, c.requires.4, c.requires.5)

pub overflow_add-i-3 : goal.overflow_add-i-3
overflow_add-i-3 c = omega (arith, c.requires.1)

pub offset_bounds-figures-i : goal.offset_bounds-figures-i
offset_bounds-figures-i c = omega (arith, c.requires.1)

pub bounds-figures-i : goal.bounds-figures-i
bounds-figures-i c = omega (arith, c.requires.1, c.requires.2, c.requires.3, c.requires.4, c.requires.5)

pub offset_bounds-numbers-i : goal.offset_bounds-numbers-i
offset_bounds-numbers-i c = omega (arith, c.requires.1)

pub bounds-numbers-i : goal.bounds-numbers-i
bounds-numbers-i c = omega (arith, c.requires.1, c.requires.2, c.requires.3, c.requires.4, c.requires.5)

pub put_volume_marks-a-requires : goal.put_volume_marks-a-requires
put_volume_marks-a-requires c = omega (arith, c.requires.0)

pub overflow_add-i-4 : goal.overflow_add-i-4
overflow_add-i-4 c = omega (arith, c.requires.1)

pub offset_bounds-figures-i-2 : goal.offset_bounds-figures-i-2
offset_bounds-figures-i-2 c = omega (arith, c.requires.1)

pub bounds-figures-i-2 : goal.bounds-figures-i-2
bounds-figures-i-2 c = omega (arith, c.requires.1, c.requires.2, c.requires.3, c.requires.4, c.requires.5)

pub offset_bounds-signs-i : goal.offset_bounds-signs-i
offset_bounds-signs-i c = omega (arith, c.requires.1)

pub bounds-signs-i : goal.bounds-signs-i
bounds-signs-i c = omega (arith, c.requires.1, c.requires.2, c.requires.3, c.requires.4, c.requires.5)

pub put_test_marks-b-requires : goal.put_test_marks-b-requires
put_test_marks-b-requires c = omega (arith, c.put_volume_marks-a.ensures.upper_bound, c.requires.0)

pub put_text-requires : goal.put_text-requires
put_text-requires c = omega (arith, c.put_test_marks-b.ensures.upper_bound, c.put_volume_marks-a.ensures.upper_bound, c.requires.0)

pub shape_of-out-then-b-at : goal.shape_of-out-then-b-at
shape_of-out-then-b-at c = omega arith

pub returns-then-b-at : goal.returns-then-b-at
unfolding ascii tab marks_text
returns-then-b-at c = record { wrote = dash _ (wrote_then c.put_volume_marks-a.ensures.wrote c.put_test_marks-b.ensures.wrote) c.if-b-at.true c.put_text.ensures; upper_bound = omega (arith, c.put_text.ensures.until) }

pub shape_of-out : goal.shape_of-out
shape_of-out c = omega arith

pub returns : goal.returns
unfolding marks_text
returns c = record { wrote = marked _ (wrote_then c.put_volume_marks-a.ensures.wrote c.put_test_marks-b.ensures.wrote) c.if-b-at.false; upper_bound = omega (arith, c.put_volume_marks-a.ensures.upper_bound, c.put_test_marks-b.ensures.upper_bound) }
