-- `item_line`: two tests, the name, and the rest.
use mathlib.Core.Path.{sym, ap, ◌∙◌, subst}
use native.Mathlib.Omega.{arith}
use Rattle.std.specs.Prelude.{Result, ℕ}
use Rattle.sheet_words.specs.declared.Wrong.{Wrong}
use Rattle.sheet_words.proofs.Laws.{found-in, err-is}
use Rattle.sheet_parts.specs.inner.Work.{name_told, Inside}
use Rattle.sheet_lines.specs.declared.Counts.{Counts}
use Rattle.sheet_lines.specs.inner.Work.{state, line_told, Sound}
use Rattle.sheet_lines.proofs.LineKinds.{line-wrong, item-late, many-items, item_from, unnamed-item}
use Rattle.sheet_lines.proofs.item_line.Goals as goal

pub returns-then-s-gt0 : goal.returns-then-s-gt0
returns-then-s-gt0 c = let a = c.args in record { numbers_after = (line-wrong a.line.now c.new.result _ a.kind c.new.ensures a.texts.now a.wholes.now a.numbers.now _ (item-late _ _ _ (state a.s a.texts.now a.wholes.now a.numbers.now) c.if-s-gt0.true)); sound = found-in a.line.now c.new.result _ a.kind c.new.ensures (c.requires.0) }

pub returns-then-s-ge16 : goal.returns-then-s-ge16
returns-then-s-ge16 c = let a = c.args in record { numbers_after = (line-wrong a.line.now c.new-then-s-ge16.result _ a.kind c.new-then-s-ge16.ensures a.texts.now a.wholes.now a.numbers.now _ (many-items _ _ _ (state a.s a.texts.now a.wholes.now a.numbers.now) c.if-s-gt0.false c.if-s-ge16.true)); sound = found-in a.line.now c.new-then-s-ge16.result _ a.kind c.new-then-s-ge16.ensures (c.requires.0) }

pub take_name-requires : goal.take_name-requires
take_name-requires c = (c.requires.0.1, omega (arith, c.if-s-ge16.false), c.requires.2)

pub take_item-requires : goal.take_item-requires
take_item-requires c = (subst (λ (q : Result ℕ Wrong). Inside c.args.line.now q) c.in_ok-p.was c.take_name.ensures.inside, c.requires.1, c.if-s-ge16.false, omega arith, omega arith)

pub returns-in_err-p : goal.returns-in_err-p
returns-in_err-p c = let a = c.args in let k = c.take_name in let t = state a.s a.texts.now a.wholes.now a.numbers.now in record { numbers_after = (ap (λ (q : Result Counts Wrong). line_told a.line.now q k.new.texts a.wholes.now a.numbers.now) (err-is c.from_residual.result _ c.from_residual.ensures.1) ∙ item_from _ _ _ t c.if-s-gt0.false c.if-s-ge16.false _ (ap (λ (q : Result ℕ Wrong). name_told a.line.now q k.new.texts) (sym c.in_err-p.was) ∙ k.ensures.texts_after) _ (unnamed-item _ _ _ t)); sound = subst (λ (q : Result Counts Wrong). Sound a.line.now q) (sym (err-is c.from_residual.result _ c.from_residual.ensures.1)) (subst (λ (q : Result ℕ Wrong). Inside a.line.now q) c.in_err-p.was k.ensures.inside) }

pub returns : goal.returns
returns c = let a = c.args in let k = c.take_name in let t = state a.s a.texts.now a.wholes.now a.numbers.now in record { numbers_after = item_from _ _ _ t c.if-s-gt0.false c.if-s-ge16.false _ (ap (λ (q : Result ℕ Wrong). name_told a.line.now q k.new.texts) (sym c.in_ok-p.was) ∙ k.ensures.texts_after) _ (c.take_item.ensures.takes_item _ a.texts.now); sound = c.take_item.ensures.sound }
