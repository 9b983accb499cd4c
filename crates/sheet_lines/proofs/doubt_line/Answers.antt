-- `doubt_line`: the test, and the text.
use mathlib.Core.Path.{sym, ap, ◌∙◌, subst}
use native.Mathlib.Omega.{arith}
use Rattle.std.specs.Prelude.{Result, ℕ}
use Rattle.sheet_words.specs.declared.Wrong.{Wrong}
use Rattle.sheet_words.proofs.Laws.{found-in, err-is}
use Rattle.sheet_parts.specs.inner.Work.{text_told, Inside}
use Rattle.sheet_lines.specs.declared.Counts.{Counts}
use Rattle.sheet_lines.specs.inner.Work.{state, line_told, Sound}
use Rattle.sheet_lines.proofs.LineKinds.{line-wrong, many-doubts, doubt-not, doubt-is}
use Rattle.sheet_lines.proofs.doubt_line.Goals as goal

pub returns-then-j-ge16 : goal.returns-then-j-ge16
returns-then-j-ge16 c = let a = c.args in record { doubt = (λ wholes numbers. line-wrong a.line.now c.new.result _ a.kind c.new.ensures a.texts.now wholes numbers _ (many-doubts _ _ (state a.s a.texts.now wholes numbers) c.if-j-ge16.true)); sound = found-in a.line.now c.new.result _ a.kind c.new.ensures (c.requires.0) }

pub overflow_mul-j : goal.overflow_mul-j
overflow_mul-j c = omega (arith, c.if-j-ge16.false)

pub overflow_add-j : goal.overflow_add-j
overflow_add-j c = omega (arith, c.if-j-ge16.false)

pub take_text-requires : goal.take_text-requires
take_text-requires c = (c.requires.0.1, omega (arith, c.if-j-ge16.false), c.requires.2)

pub returns-in_err-take_text : goal.returns-in_err-take_text
returns-in_err-take_text c = let a = c.args in let k = c.take_text in record { doubt = (λ wholes numbers. ap (λ (q : Result Counts Wrong). line_told a.line.now q k.new.texts wholes numbers) (err-is c.from_residual.result _ c.from_residual.ensures.1) ∙ doubt-not _ _ (state a.s a.texts.now wholes numbers) c.if-j-ge16.false _ _ (ap (λ (q : Result ℕ Wrong). text_told a.line.now q k.new.texts) (sym c.in_err-take_text.was) ∙ k.ensures.texts_after)); sound = subst (λ (q : Result Counts Wrong). Sound a.line.now q) (sym (err-is c.from_residual.result _ c.from_residual.ensures.1)) (subst (λ (q : Result ℕ Wrong). Inside a.line.now q) c.in_err-take_text.was k.ensures.inside) }

pub returns : goal.returns
returns c = let a = c.args in let k = c.take_text in let p = c.requires.1 in record { doubt = (λ wholes numbers. doubt-is _ _ (state a.s a.texts.now wholes numbers) c.if-j-ge16.false _ (ap (λ (q : Result ℕ Wrong). text_told a.line.now q k.new.texts) (sym c.in_ok-take_text.was) ∙ k.ensures.texts_after)); sound = (p.0, p.1, p.2, omega (arith, c.if-j-ge16.false), p.4) }
