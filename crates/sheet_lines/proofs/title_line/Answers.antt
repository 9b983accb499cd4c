-- `title_line`: the test, and the text.
use mathlib.Core.Path.{sym, ap, ◌∙◌, subst}
use native.Mathlib.Omega.{arith}
use Rattle.std.specs.Prelude.{Result, ℕ}
use Rattle.sheet_words.specs.declared.Wrong.{Wrong}
use Rattle.sheet_words.proofs.Laws.{found-in, err-is}
use Rattle.sheet_parts.specs.inner.Work.{text_told, Inside}
use Rattle.sheet_lines.specs.declared.Counts.{Counts}
use Rattle.sheet_lines.specs.inner.Work.{state, line_told, Sound}
use Rattle.sheet_lines.proofs.LineKinds.{line-wrong, second-title, title-not, title-is}
use Rattle.sheet_lines.proofs.title_line.Goals as goal

pub returns-then-s : goal.returns-then-s
returns-then-s c = let a = c.args in record { title = (λ wholes numbers. line-wrong a.line.now c.new.result _ a.kind c.new.ensures a.texts.now wholes numbers _ (second-title _ _ (state a.s a.texts.now wholes numbers) c.if-s.true)); sound = found-in a.line.now c.new.result _ a.kind c.new.ensures (c.requires.0) }

pub take_text-requires : goal.take_text-requires
take_text-requires c = (c.requires.0.1, omega arith, c.requires.2)

pub returns-in_err-take_text : goal.returns-in_err-take_text
returns-in_err-take_text c = let a = c.args in let k = c.take_text in record { title = (λ wholes numbers. ap (λ (q : Result Counts Wrong). line_told a.line.now q k.new.texts wholes numbers) (err-is c.from_residual.result _ c.from_residual.ensures.1) ∙ title-not _ _ (state a.s a.texts.now wholes numbers) c.if-s.false _ _ (ap (λ (q : Result ℕ Wrong). text_told a.line.now q k.new.texts) (sym c.in_err-take_text.was) ∙ k.ensures.texts_after)); sound = subst (λ (q : Result Counts Wrong). Sound a.line.now q) (sym (err-is c.from_residual.result _ c.from_residual.ensures.1)) (subst (λ (q : Result ℕ Wrong). Inside a.line.now q) c.in_err-take_text.was k.ensures.inside) }

pub returns : goal.returns
returns c = let a = c.args in let k = c.take_text in record { title = (λ wholes numbers. title-is _ _ (state a.s a.texts.now wholes numbers) c.if-s.false _ (ap (λ (q : Result ℕ Wrong). text_told a.line.now q k.new.texts) (sym c.in_ok-take_text.was) ∙ k.ensures.texts_after)); sound = c.requires.1 }
