-- `remark_of`: after the first word, behind what is no remark.
use native.Mathlib.Omega.{arith}
use Rattle.sheet.proofs.Lines.{cut_fits}
use Rattle.plant_lines.proofs.Places.{remark-is}
use Rattle.plant_lines.proofs.remark_of.Goals as goal

pub find_word-w-requires : goal.find_word-w-requires
find_word-w-requires c = omega arith

pub slice_bounds-before_remark-count : goal.slice_bounds-before_remark-count
slice_bounds-before_remark-count c = c.find_word-w.ensures.high

pub slice_bounds-before_remark-start : goal.slice_bounds-before_remark-start
slice_bounds-before_remark-start c = omega (arith, c.find_word-w.ensures.high)

pub slice_bounds-before_remark-end : goal.slice_bounds-before_remark-end
slice_bounds-before_remark-end c = omega (arith, c.find_word-w.ensures.high)

pub before_remark-requires : goal.before_remark-requires
before_remark-requires c = tt

pub overflow_add-result : goal.overflow_add-result
overflow_add-result c = omega (arith, cut_fits c.args.line.now c.find_word-w.result.end c.before_remark.result c.find_word-w.ensures.high c.before_remark.ensures.1)

pub returns : goal.returns
returns c = let a = c.args in
    let f = c.find_word-w in
    let n = c.before_remark in
    (remark-is a.line.now f.result.end n.result n.ensures.0 n.ensures.1 f.ensures.left, cut_fits a.line.now f.result.end n.result f.ensures.high n.ensures.1)
