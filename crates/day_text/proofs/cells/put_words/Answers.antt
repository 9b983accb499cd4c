-- `put_words`: a part of the table, without the blanks at its end.
use mathlib.Core.Path.{sym}
use native.Mathlib.Omega.{arith}
use lib.Seq.{length-take-le}
use Rattle.ascii.proofs.Writing.{as-text}
use Rattle.day_text.proofs.Parts.{front_of, words-bare}
use Rattle.day_text.proofs.cells.put_words.Goals as goal

pub overflow_add-b : goal.overflow_add-b
overflow_add-b c = omega (arith, c.requires.2)

pub slice_bounds-cell-count : goal.slice_bounds-cell-count
slice_bounds-cell-count c = omega (arith, c.requires.2)

pub slice_bounds-cell-start : goal.slice_bounds-cell-start
slice_bounds-cell-start c = omega (arith, c.requires.2, c.requires.1)

pub slice_bounds-cell-end : goal.slice_bounds-cell-end
slice_bounds-cell-end c = omega (arith, c.requires.2, c.requires.1)

pub trim-n-requires : goal.trim-n-requires
trim-n-requires c = tt

pub slice_bounds-put_text-end : goal.slice_bounds-put_text-end
slice_bounds-put_text-end c = sym (length-take-le _ _ c.trim-n.ensures.1)

pub put_text-requires : goal.put_text-requires
put_text-requires c = let a = c.args in let t = c.trim-n in omega (arith, front_of a.p 72 t.result a.texts.now t.ensures.1, c.requires.0)

pub shape_of-out : goal.shape_of-out
shape_of-out c = omega arith

pub returns : goal.returns
returns c = let a = c.args in let t = c.trim-n in record { wrote = as-text (words-bare a.p t.result a.texts.now t.ensures.0) c.put_text.ensures; upper_bound = omega (arith, c.put_text.ensures.until, front_of a.p 72 t.result a.texts.now t.ensures.1) }
