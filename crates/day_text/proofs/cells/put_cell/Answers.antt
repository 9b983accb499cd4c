-- `put_cell`: a part of the table.
use mathlib.Core.Path.{refl}
use Prim.Native.Nat.{◌*◌}
use native.Mathlib.Omega.{arith}
use Rattle.ascii.proofs.Writing.{as-text}
use Rattle.day_text.proofs.Parts.{part_of, name_is}
use Rattle.day_text.proofs.cells.put_cell.Goals as goal

pub overflow_mul-a : goal.overflow_mul-a
overflow_mul-a c = omega (arith, c.requires.2)

pub overflow_add-b : goal.overflow_add-b
overflow_add-b c = omega (arith, c.requires.2)

pub slice_bounds-put_text-count : goal.slice_bounds-put_text-count
slice_bounds-put_text-count c = omega (arith, c.requires.2)

pub slice_bounds-put_text-start : goal.slice_bounds-put_text-start
slice_bounds-put_text-start c = omega (arith, c.requires.2, c.requires.1)

pub slice_bounds-put_text-end : goal.slice_bounds-put_text-end
slice_bounds-put_text-end c = omega (arith, c.requires.2, c.requires.1)

pub put_text-requires : goal.put_text-requires
put_text-requires c = omega (arith, part_of (16 * c.args.k) 16 c.args.texts.now, c.requires.0)

pub shape_of-out : goal.shape_of-out
shape_of-out c = omega arith

pub returns : goal.returns
returns c = let a = c.args in record { wrote = as-text (name_is (16 * a.k) a.k a.texts.now refl) c.put_text.ensures; upper_bound = omega (arith, c.put_text.ensures.until, part_of (16 * a.k) 16 a.texts.now) }
