-- `take_line`: by the first word; a remark is cut off where there is no text.
use mathlib.Core.Path.{sym, ◌∙◌}
use Prim.Native.Nat.{◌+◌}
use native.Mathlib.Omega.{arith}
use lib.Seq.{length-take-le}
use Rattle.sheet_lines.specs.inner.Work.{state}
use Rattle.sheet.proofs.Lines.{line-passed, line-title, line-doubt, line_plain, cut-told, cut-sound, cut_fits, plain-cut}
use Rattle.sheet.proofs.take_line.Goals as goal

pub find_word-w-requires : goal.find_word-w-requires
find_word-w-requires c = omega arith

pub slice_bounds-word-count : goal.slice_bounds-word-count
slice_bounds-word-count c = c.find_word-w.ensures.low

pub slice_bounds-word-start : goal.slice_bounds-word-start
slice_bounds-word-start c = omega (arith, c.find_word-w.ensures.low, c.find_word-w.ensures.high)

pub slice_bounds-word-end : goal.slice_bounds-word-end
slice_bounds-word-end c = omega (arith, c.find_word-w.ensures.low, c.find_word-w.ensures.high)

pub is_passed-requires : goal.is_passed-requires
is_passed-requires c = tt

pub returns-then-is_passed : goal.returns-then-is_passed
returns-then-is_passed c = let a = c.args in let f = c.find_word-w.ensures in record { numbers_after = line-passed _ _ _ (state a.s a.texts.now a.wholes.now a.numbers.now) f.text f.left c.is_passed.result c.is_passed.ensures c.if-is_passed.true; sound = c.requires.0 }

pub kind_of-k-requires : goal.kind_of-k-requires
kind_of-k-requires c = tt

pub title_line-requires : goal.title_line-requires
title_line-requires c = ((c.find_word-w.ensures.low, c.find_word-w.ensures.high), c.requires.0, omega arith)

pub shape_of-texts-then-k-eq7 : goal.shape_of-texts-then-k-eq7
shape_of-texts-then-k-eq7 c = omega arith

pub returns-then-k-eq7 : goal.returns-then-k-eq7
returns-then-k-eq7 c = let a = c.args in let f = c.find_word-w.ensures in record { numbers_after = c.title_line.ensures.title a.wholes.now a.numbers.now ∙ line-title _ _ _ (state a.s a.texts.now a.wholes.now a.numbers.now) f.text f.left c.is_passed.result c.is_passed.ensures c.if-is_passed.false c.kind_of-k.result c.kind_of-k.ensures c.if-k-eq7.true; sound = c.title_line.ensures.sound }

pub doubt_line-requires : goal.doubt_line-requires
doubt_line-requires c = ((c.find_word-w.ensures.low, c.find_word-w.ensures.high), c.requires.0, omega arith)

pub shape_of-texts-then-k-eq8 : goal.shape_of-texts-then-k-eq8
shape_of-texts-then-k-eq8 c = omega arith

pub returns-then-k-eq8 : goal.returns-then-k-eq8
returns-then-k-eq8 c = let a = c.args in let f = c.find_word-w.ensures in record { numbers_after = c.doubt_line.ensures.doubt a.wholes.now a.numbers.now ∙ line-doubt _ _ _ (state a.s a.texts.now a.wholes.now a.numbers.now) f.text f.left c.is_passed.result c.is_passed.ensures c.if-is_passed.false c.kind_of-k.result c.kind_of-k.ensures c.if-k-eq7.false c.if-k-eq8.true; sound = c.doubt_line.ensures.sound }

pub slice_bounds-before_remark-count : goal.slice_bounds-before_remark-count
slice_bounds-before_remark-count c = c.find_word-w.ensures.high

pub slice_bounds-before_remark-start : goal.slice_bounds-before_remark-start
slice_bounds-before_remark-start c = omega (arith, c.find_word-w.ensures.high)

pub slice_bounds-before_remark-end : goal.slice_bounds-before_remark-end
slice_bounds-before_remark-end c = omega (arith, c.find_word-w.ensures.high)

pub before_remark-n-requires : goal.before_remark-n-requires
before_remark-n-requires c = tt

pub overflow_add-end : goal.overflow_add-end
overflow_add-end c = omega (arith, cut_fits c.args.line.now c.find_word-w.result.end c.before_remark-n.result c.find_word-w.ensures.high c.before_remark-n.ensures.1)

pub slice_bounds-take_plain-end : goal.slice_bounds-take_plain-end
slice_bounds-take_plain-end c = sym (length-take-le _ _ (cut_fits c.args.line.now c.find_word-w.result.end c.before_remark-n.result c.find_word-w.ensures.high c.before_remark-n.ensures.1))

pub take_plain-requires : goal.take_plain-requires
take_plain-requires c = let a = c.args in
    let f = c.find_word-w in
    let n = c.before_remark-n in
    let l = length-take-le (f.result.end + n.result) a.line.now (cut_fits a.line.now f.result.end n.result f.ensures.high n.ensures.1) in
    ((f.ensures.low, omega (arith, l)), c.requires.0, omega arith, omega arith, omega arith)

pub shape_of-texts : goal.shape_of-texts
shape_of-texts c = omega arith

pub shape_of-wholes : goal.shape_of-wholes
shape_of-wholes c = omega arith

pub shape_of-numbers : goal.shape_of-numbers
shape_of-numbers c = omega arith

pub returns : goal.returns
returns c = let a = c.args in let f = c.find_word-w in let n = c.before_remark-n in let k = c.take_plain in let t = state a.s a.texts.now a.wholes.now a.numbers.now in record { numbers_after = cut-told (f.result.end + n.result) a.line.now k.result k.new.texts k.new.wholes k.new.numbers k.ensures.sound ∙ k.ensures.numbers_after ∙ plain-cut a.line.now f.result.start f.result.end n.result c.kind_of-k.result t n.ensures.0 ∙ line_plain _ _ _ t f.ensures.text f.ensures.left c.is_passed.result c.is_passed.ensures c.if-is_passed.false c.kind_of-k.result c.kind_of-k.ensures c.if-k-eq7.false c.if-k-eq8.false; sound = cut-sound (f.result.end + n.result) a.line.now k.result k.ensures.sound }
