-- `finish`: test by test.
use borrow.Author.Tests.{not-true, not-false}
use Rattle.sheet_terms.specs.inner.Work.{turn}
use Rattle.sheet_terms.proofs.Laws.{row-wrong, ends-wrong, end-early, end-number, end-limit, end-balance, end-open}
use Rattle.sheet_terms.proofs.finish.Goals as goal

pub returns-then-not-t : goal.returns-then-not-t
returns-then-not-t c = record { end = (λ l n. row-wrong c.args.at c.new.result _ c.new.ensures l n _ (end-early c.args.balance (turn c.args.t n) (not-true _ c.if-not-t.true))); ends_at = ends-wrong c.args.at c.new.result _ c.new.ensures }

pub returns-then-is_some : goal.returns-then-is_some
returns-then-is_some c = record { end = (λ l n. row-wrong c.args.at c.new-then-is_some.result _ c.new-then-is_some.ensures l n _ (end-number c.args.balance (turn c.args.t n) (not-false _ c.if-not-t.false) c.is_some.result c.is_some.ensures c.if-is_some.true)); ends_at = ends-wrong c.args.at c.new-then-is_some.result _ c.new-then-is_some.ensures }

pub returns-then-not-balance : goal.returns-then-not-balance
returns-then-not-balance c = record { end = (λ l n. end-limit c.args.balance (turn c.args.t n) (not-false _ c.if-not-t.false) c.is_some.result c.is_some.ensures c.if-is_some.false (c.if-not-balance.true)); ends_at = tt }

pub returns-then-t : goal.returns-then-t
returns-then-t c = record { end = (λ l n. end-balance c.args.balance (turn c.args.t n) (not-false _ c.if-not-t.false) c.is_some.result c.is_some.ensures c.if-is_some.false (c.if-not-balance.false) c.if-t.true); ends_at = tt }

pub returns : goal.returns
returns c = record { end = (λ l n. row-wrong c.args.at c.new-2.result _ c.new-2.ensures l n _ (end-open c.args.balance (turn c.args.t n) (not-false _ c.if-not-t.false) c.is_some.result c.is_some.ensures c.if-is_some.false (c.if-not-balance.false) c.if-t.false)); ends_at = ends-wrong c.args.at c.new-2.result _ c.new-2.ensures }
