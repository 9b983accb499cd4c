-- `balance_line`: two tests, the name, and the terms.
use mathlib.Core.Path.{sym, ap, ◌∙◌, subst}
use native.Mathlib.Omega.{arith}
use borrow.Author.Tests.{not-true, not-false}
use Rattle.std.specs.Prelude.{Result, ℕ}
use Rattle.sheet_words.specs.declared.Wrong.{Wrong}
use Rattle.sheet_words.proofs.Laws.{found-in, err-is}
use Rattle.sheet_terms.specs.inner.Work.{row_told, RowInside}
use Rattle.sheet_parts.specs.inner.Work.{name_told, Inside}
use Rattle.sheet_lines.specs.declared.Counts.{Counts}
use Rattle.sheet_lines.specs.inner.Work.{state, line_told, Sound}
use Rattle.sheet_lines.proofs.LineKinds.{line-wrong, balance-early, many-balances, balance-from, unnamed-balance, balance-not, balance-is}
use Rattle.sheet_lines.proofs.balance_line.Goals as goal

pub returns-then-not-s : goal.returns-then-not-s
returns-then-not-s c = let a = c.args in record { balance = (λ wholes. line-wrong a.line.now c.new.result _ a.kind c.new.ensures a.texts.now wholes a.numbers.now _ (balance-early _ _ (state a.s a.texts.now wholes a.numbers.now) (not-true _ c.if-not-s.true))); sound = found-in a.line.now c.new.result _ a.kind c.new.ensures (c.requires.0) }

pub returns-then-j-ge16 : goal.returns-then-j-ge16
returns-then-j-ge16 c = let a = c.args in record { balance = (λ wholes. line-wrong a.line.now c.new-then-j-ge16.result _ a.kind c.new-then-j-ge16.ensures a.texts.now wholes a.numbers.now _ (many-balances _ _ (state a.s a.texts.now wholes a.numbers.now) (not-false _ c.if-not-s.false) c.if-j-ge16.true)); sound = found-in a.line.now c.new-then-j-ge16.result _ a.kind c.new-then-j-ge16.ensures (c.requires.0) }

pub take_name-requires : goal.take_name-requires
take_name-requires c = (c.requires.0.1, omega (arith, c.if-j-ge16.false), c.requires.2)

pub overflow_mul-j : goal.overflow_mul-j
overflow_mul-j c = omega (arith, c.if-j-ge16.false)

pub take_terms-requires : goal.take_terms-requires
take_terms-requires c = (subst (λ (q : Result ℕ Wrong). Inside c.args.line.now q) c.in_ok-p.was c.take_name.ensures.inside, omega arith, omega (arith, c.if-j-ge16.false))

pub returns-in_err-p : goal.returns-in_err-p
returns-in_err-p c = let a = c.args in let k = c.take_name in record { balance = (λ wholes. let t = state a.s a.texts.now wholes a.numbers.now in ap (λ (q : Result Counts Wrong). line_told a.line.now q k.new.texts wholes a.numbers.now) (err-is c.from_residual.result _ c.from_residual.ensures.1) ∙ balance-from _ _ t (not-false _ c.if-not-s.false) c.if-j-ge16.false _ (ap (λ (q : Result ℕ Wrong). name_told a.line.now q k.new.texts) (sym c.in_err-p.was) ∙ k.ensures.texts_after) _ (unnamed-balance _ _ t)); sound = subst (λ (q : Result Counts Wrong). Sound a.line.now q) (sym (err-is c.from_residual.result _ c.from_residual.ensures.1)) (subst (λ (q : Result ℕ Wrong). Inside a.line.now q) c.in_err-p.was k.ensures.inside) }

pub returns-in_err-take_terms : goal.returns-in_err-take_terms
returns-in_err-take_terms c = let a = c.args in let k = c.take_name in let l = c.take_terms in record { balance = (λ wholes. let t = state a.s a.texts.now wholes a.numbers.now in ap (λ (q : Result Counts Wrong). line_told a.line.now q k.new.texts wholes l.new.numbers) (err-is c.from_residual-in_err-take_terms.result _ c.from_residual-in_err-take_terms.ensures.1) ∙ balance-from _ _ t (not-false _ c.if-not-s.false) c.if-j-ge16.false _ (ap (λ (q : Result ℕ Wrong). name_told a.line.now q k.new.texts) (sym c.in_ok-p.was) ∙ k.ensures.texts_after) _ (balance-not _ _ t _ l.ensures.numbers_after _ _ (ap (λ (q : Result Unit Wrong). row_told a.line.now q l.new.numbers) (sym c.in_err-take_terms.was)))); sound = subst (λ (q : Result Counts Wrong). Sound a.line.now q) (sym (err-is c.from_residual-in_err-take_terms.result _ c.from_residual-in_err-take_terms.ensures.1)) (subst (λ (q : Result Unit Wrong). RowInside a.line.now q) c.in_err-take_terms.was l.ensures.numbers_len_unchanged.1) }

pub returns : goal.returns
returns c = let a = c.args in let k = c.take_name in let l = c.take_terms in let p = c.requires.1 in record { balance = (λ wholes. let t = state a.s a.texts.now wholes a.numbers.now in balance-from _ _ t (not-false _ c.if-not-s.false) c.if-j-ge16.false _ (ap (λ (q : Result ℕ Wrong). name_told a.line.now q k.new.texts) (sym c.in_ok-p.was) ∙ k.ensures.texts_after) _ (balance-is _ _ t _ l.ensures.numbers_after _ (ap (λ (q : Result Unit Wrong). row_told a.line.now q l.new.numbers) (sym c.in_ok-take_terms.was)))); sound = (p.0, omega (arith, c.if-j-ge16.false), p.2, p.3, p.4) }
