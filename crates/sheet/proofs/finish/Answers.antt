-- `finish`: what is missing, in its order.
use native.Mathlib.Omega.{arith}
use borrow.Author.Tests.{not-true, not-false}
use Rattle.sheet_lines.specs.inner.Work.{state}
use Rattle.sheet.proofs.Lines.{missing-told, missing-fits, end-title, end-meter, end-balance, end_whole, end-tolerance}
use Rattle.sheet.proofs.finish.Goals as goal

pub returns-then-not-s : goal.returns-then-not-s
returns-then-not-s c = let a = c.args in record { end = (λ bytes texts wholes numbers. missing-told a.line _ c.missing.result c.missing.ensures bytes texts wholes numbers _ (end-title a.line (state a.s texts wholes numbers) (not-true _ c.if-not-s.true))); fits_anywhere = (λ bytes. missing-fits a.line _ c.missing.result c.missing.ensures bytes) }

pub returns-then-not-s-2 : goal.returns-then-not-s-2
returns-then-not-s-2 c = let a = c.args in record { end = (λ bytes texts wholes numbers. missing-told a.line _ c.missing-then-not-s-2.result c.missing-then-not-s-2.ensures bytes texts wholes numbers _ (end-meter a.line (state a.s texts wholes numbers) (not-false _ c.if-not-s.false) (not-true _ c.if-not-s-2.true))); fits_anywhere = (λ bytes. missing-fits a.line _ c.missing-then-not-s-2.result c.missing-then-not-s-2.ensures bytes) }

pub returns-then-s-eq0 : goal.returns-then-s-eq0
returns-then-s-eq0 c = let a = c.args in record { end = (λ bytes texts wholes numbers. missing-told a.line _ c.missing-then-s-eq0.result c.missing-then-s-eq0.ensures bytes texts wholes numbers _ (end-balance a.line (state a.s texts wholes numbers) (not-false _ c.if-not-s.false) (not-false _ c.if-not-s-2.false) c.if-s-eq0.true)); fits_anywhere = (λ bytes. missing-fits a.line _ c.missing-then-s-eq0.result c.missing-then-s-eq0.ensures bytes) }

pub returns-then-s : goal.returns-then-s
returns-then-s c = let a = c.args in let p = c.requires in record { end = (λ bytes texts wholes numbers. end_whole a.line (state a.s texts wholes numbers) (not-false _ c.if-not-s.false) (not-false _ c.if-not-s-2.false) c.if-s-eq0.false c.if-s.true); fits_anywhere = (λ bytes. (p.4 (not-false _ c.if-not-s-2.false), p.0, omega (arith, c.if-s-eq0.false), p.1, p.2, p.3)) }

pub returns : goal.returns
returns c = let a = c.args in record { end = (λ bytes texts wholes numbers. missing-told a.line _ c.missing-2.result c.missing-2.ensures bytes texts wholes numbers _ (end-tolerance a.line (state a.s texts wholes numbers) (not-false _ c.if-not-s.false) (not-false _ c.if-not-s-2.false) c.if-s-eq0.false c.if-s.false)); fits_anywhere = (λ bytes. missing-fits a.line _ c.missing-2.result c.missing-2.ensures bytes) }
