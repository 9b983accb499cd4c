use borrow.Author.Tests.{eq-eqb, ne_eqb}
use Rattle.search_next.proofs.Ended.{goal-begun, goal-taken}
use Rattle.search_next.proofs.ends.end_goal.Goals as goal

pub returns-then-u-eq0 : goal.returns-then-u-eq0
returns-then-u-eq0 c = let a = c.args in goal-begun a.n a.m a.ending a.f.now _ a.u.now _ (eq-eqb _ _ c.if-u-eq0.true) c.end_begun.ensures

pub returns : goal.returns
returns c = let a = c.args in goal-taken a.n a.m a.ending a.f.now _ a.u.now _ c.requires (ne_eqb _ _ c.if-u-eq0.false) c.end_with.ensures
