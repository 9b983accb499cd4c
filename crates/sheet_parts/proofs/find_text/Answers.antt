-- `find_text`: after the blanks, and without those at the end.
use native.Mathlib.Omega.{arith}
use Rattle.sheet_parts.proofs.Texts.{is-text-part}
use Rattle.sheet_parts.proofs.find_text.Goals as goal

pub skip-start-requires : goal.skip-start-requires
skip-start-requires c = omega arith

pub slice_bounds-trim-count : goal.slice_bounds-trim-count
slice_bounds-trim-count c = omega (arith, c.skip-start.ensures.1)

pub slice_bounds-trim-start : goal.slice_bounds-trim-start
slice_bounds-trim-start c = omega (arith, c.skip-start.ensures.1)

pub slice_bounds-trim-end : goal.slice_bounds-trim-end
slice_bounds-trim-end c = omega (arith, c.skip-start.ensures.1)

pub trim-size-requires : goal.trim-size-requires
trim-size-requires c = tt

pub overflow_add-result : goal.overflow_add-result
overflow_add-result c = omega (arith, c.skip-start.ensures.1, (is-text-part c.args.line.now c.args.from c.skip-start.result c.trim-size.result c.skip-start.ensures.0 c.skip-start.ensures.1 c.trim-size.ensures.0 c.trim-size.ensures.1).high)

pub returns : goal.returns
returns c = is-text-part c.args.line.now c.args.from c.skip-start.result c.trim-size.result c.skip-start.ensures.0 c.skip-start.ensures.1 c.trim-size.ensures.0 c.trim-size.ensures.1
