-- `is_whole`: by the two marks.
use borrow.Author.Tests.{eq-eqb, ne_eqb}
use Rattle.problem_read.proofs.is_whole.Goals as goal

pub returns-then-value-eq0 : goal.returns-then-value-eq0
returns-then-value-eq0 c = simp (eq-eqb _ _ c.if-value-eq0.true)

pub returns-then-width-eq0 : goal.returns-then-width-eq0
returns-then-width-eq0 c = simp (ne_eqb _ _ c.if-value-eq0.false, eq-eqb _ _ c.if-width-eq0.true)

pub returns : goal.returns
returns c = simp (ne_eqb _ _ c.if-value-eq0.false, ne_eqb _ _ c.if-width-eq0.false)
