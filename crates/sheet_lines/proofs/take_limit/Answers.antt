-- `take_limit`: the amount, and the terms.
use mathlib.Core.Path.{sym, ap, ◌∙◌, subst}
use native.Mathlib.Omega.{arith}
use lib.ListN.{length-set}
use Rattle.std.specs.Prelude.{Result}
use Rattle.sheet_words.specs.declared.Wrong.{Wrong}
use Rattle.sheet_words.proofs.Laws.{found-in, err-is}
use Rattle.sheet_terms.specs.inner.Work.{row_told, RowInside}
use Rattle.sheet_lines.specs.declared.Counts.{Counts}
use Rattle.sheet_lines.specs.inner.Work.{state, line_told, Sound}
use Rattle.sheet_lines.proofs.LineKinds.{line-wrong, limit-letter, limit-amount, limit-not, limit_is}
use Rattle.sheet_lines.proofs.take_limit.Goals as goal

pub find_word-w-requires : goal.find_word-w-requires
find_word-w-requires c = c.requires.0

pub slice_bounds-word-count : goal.slice_bounds-word-count
slice_bounds-word-count c = c.find_word-w.ensures.low

pub slice_bounds-word-start : goal.slice_bounds-word-start
slice_bounds-word-start c = omega (arith, c.find_word-w.ensures.low, c.find_word-w.ensures.high)

pub slice_bounds-word-end : goal.slice_bounds-word-end
slice_bounds-word-end c = omega (arith, c.find_word-w.ensures.low, c.find_word-w.ensures.high)

pub returns-then-begins_letter : goal.returns-then-begins_letter
returns-then-begins_letter c = let a = c.args in let f = c.find_word-w.ensures in record { takes_limit = (λ old. line-wrong a.line.now c.new.result _ c.find_word-w.result c.new.ensures a.texts.now a.wholes.now a.numbers.now _ (limit-letter a.ceiling _ a.texts.now (state a.s old a.wholes.now a.numbers.now) _ f.text c.begins_letter.result c.begins_letter.ensures c.if-begins_letter.true)); sound = found-in a.line.now c.new.result _ c.find_word-w.result c.new.ensures ((f.low, f.high)) }

pub returns-in_default : goal.returns-in_default
returns-in_default c = let a = c.args in let f = c.find_word-w.ensures in record { takes_limit = (λ old. line-wrong a.line.now c.new-in_default.result _ c.find_word-w.result c.new-in_default.ensures a.texts.now a.wholes.now a.numbers.now _ (limit-amount a.ceiling _ a.texts.now (state a.s old a.wholes.now a.numbers.now) _ f.text c.begins_letter.result c.begins_letter.ensures c.if-begins_letter.false c.number_of.result c.number_of.ensures c.in_default.is)); sound = found-in a.line.now c.new-in_default.result _ c.find_word-w.result c.new-in_default.ensures ((f.low, f.high)) }

pub take_terms-requires : goal.take_terms-requires
take_terms-requires c = (c.find_word-w.ensures.high, omega arith, simp length-set (omega arith))

pub returns-in_err-take_terms : goal.returns-in_err-take_terms
returns-in_err-take_terms c = let a = c.args in let f = c.find_word-w.ensures in let l = c.take_terms in record { takes_limit = (λ old. ap (λ (q : Result Counts Wrong). line_told a.line.now q a.texts.now a.wholes.now l.new.numbers) (err-is c.from_residual.result _ c.from_residual.ensures.1) ∙ limit-not a.ceiling _ a.texts.now (state a.s old a.wholes.now a.numbers.now) _ f.text c.begins_letter.result c.begins_letter.ensures c.if-begins_letter.false c.number_of.result c.number_of.ensures _ c.in-Some.is _ f.left _ l.ensures.numbers_after _ _ (ap (λ (q : Result Unit Wrong). row_told a.line.now q l.new.numbers) (sym c.in_err-take_terms.was))); sound = subst (λ (q : Result Counts Wrong). Sound a.line.now q) (sym (err-is c.from_residual.result _ c.from_residual.ensures.1)) (subst (λ (q : Result Unit Wrong). RowInside a.line.now q) c.in_err-take_terms.was l.ensures.numbers_len_unchanged.1) }

pub shape_of-wholes : goal.shape_of-wholes
shape_of-wholes c = simp length-set

pub returns : goal.returns
returns c = let a = c.args in let f = c.find_word-w.ensures in let l = c.take_terms in let p = c.requires.1 in record { takes_limit = (λ old. limit_is a.ceiling _ a.texts.now (state a.s old a.wholes.now a.numbers.now) _ f.text c.begins_letter.result c.begins_letter.ensures c.if-begins_letter.false c.number_of.result c.number_of.ensures _ c.in-Some.is _ f.left _ l.ensures.numbers_after _ (ap (λ (q : Result Unit Wrong). row_told a.line.now q l.new.numbers) (sym c.in_ok-take_terms.was))); sound = (p.0, p.1, omega (arith, c.requires.2), p.3, p.4) }
