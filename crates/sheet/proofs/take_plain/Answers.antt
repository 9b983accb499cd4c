-- `take_plain`: by its kind.
use mathlib.Core.Path.{◌∙◌}
use native.Mathlib.Omega.{arith}
use Rattle.sheet_lines.specs.inner.Work.{state}
use Rattle.sheet_words.proofs.Laws.{found-in}
use Rattle.sheet_lines.proofs.LineKinds.{line-wrong}
use Rattle.sheet.proofs.Lines.{plain-item, plain-balance, plain-limit, plain-tolerance, plain-small, plain-none}
use Rattle.sheet.proofs.take_plain.Goals as goal

pub item_line-requires : goal.item_line-requires
item_line-requires c = (c.requires.0, c.requires.1, omega arith, omega arith, omega arith)

pub returns-then-k-lt3 : goal.returns-then-k-lt3
returns-then-k-lt3 c = let a = c.args in record { numbers_after = c.item_line.ensures.numbers_after ∙ plain-item a.k _ _ (state a.s a.texts.now a.wholes.now a.numbers.now) c.if-k-lt3.true; sound = c.item_line.ensures.sound }

pub balance_line-requires : goal.balance_line-requires
balance_line-requires c = (c.requires.0, c.requires.1, omega arith, omega arith)

pub returns-then-k-eq3 : goal.returns-then-k-eq3
returns-then-k-eq3 c = let a = c.args in record { numbers_after = c.balance_line.ensures.balance a.wholes.now ∙ plain-balance a.k _ _ (state a.s a.texts.now a.wholes.now a.numbers.now) c.if-k-lt3.false c.if-k-eq3.true; sound = c.balance_line.ensures.sound }

pub overflow_sub-k : goal.overflow_sub-k
overflow_sub-k c = omega (arith, c.if-k-lt3.false, c.if-k-eq3.false)

pub limit_line-requires : goal.limit_line-requires
limit_line-requires c = (c.requires.0, c.requires.1, omega arith, omega arith, omega arith)

pub returns-then-k-lt6 : goal.returns-then-k-lt6
returns-then-k-lt6 c = let a = c.args in record { numbers_after = c.limit_line.ensures.numbers_after ∙ plain-limit a.k _ _ (state a.s a.texts.now a.wholes.now a.numbers.now) c.if-k-lt3.false c.if-k-eq3.false c.if-k-lt6.true; sound = c.limit_line.ensures.sound }

pub tolerance_line-requires : goal.tolerance_line-requires
tolerance_line-requires c = (c.requires.0, c.requires.1, omega arith)

pub returns-then-k-eq6 : goal.returns-then-k-eq6
returns-then-k-eq6 c = let a = c.args in record { numbers_after = c.tolerance_line.ensures.tolerance a.texts.now a.wholes.now ∙ plain-tolerance a.k _ _ (state a.s a.texts.now a.wholes.now a.numbers.now) c.if-k-lt3.false c.if-k-eq3.false c.if-k-lt6.false c.if-k-eq6.true; sound = c.tolerance_line.ensures.sound }

pub slice_bounds-is_kind-count : goal.slice_bounds-is_kind-count
slice_bounds-is_kind-count c = c.requires.0.0

pub slice_bounds-is_kind-start : goal.slice_bounds-is_kind-start
slice_bounds-is_kind-start c = omega (arith, c.requires.0.0, c.requires.0.1)

pub slice_bounds-is_kind-end : goal.slice_bounds-is_kind-end
slice_bounds-is_kind-end c = omega (arith, c.requires.0.0, c.requires.0.1)

pub is_kind-requires : goal.is_kind-requires
is_kind-requires c = tt

pub returns-then-is_kind : goal.returns-then-is_kind
returns-then-is_kind c = let a = c.args in record { numbers_after = line-wrong a.line.now c.new.result _ a.kind c.new.ensures a.texts.now a.wholes.now a.numbers.now _ (plain-small a.k _ _ (state a.s a.texts.now a.wholes.now a.numbers.now) c.if-k-lt3.false c.if-k-eq3.false c.if-k-lt6.false c.if-k-eq6.false c.is_kind.result c.is_kind.ensures c.if-is_kind.true); sound = found-in a.line.now c.new.result _ a.kind c.new.ensures (c.requires.0) }

pub returns : goal.returns
returns c = let a = c.args in record { numbers_after = line-wrong a.line.now c.new-2.result _ a.kind c.new-2.ensures a.texts.now a.wholes.now a.numbers.now _ (plain-none a.k _ _ (state a.s a.texts.now a.wholes.now a.numbers.now) c.if-k-lt3.false c.if-k-eq3.false c.if-k-lt6.false c.if-k-eq6.false c.is_kind.result c.is_kind.ensures c.if-is_kind.false); sound = found-in a.line.now c.new-2.result _ a.kind c.new-2.ensures (c.requires.0) }
