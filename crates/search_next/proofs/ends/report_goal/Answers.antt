-- `report_goal`: the new point is reported, or an iterate stands there already.
use borrow.Author.Tests.{eq-eqb, ne_eqb}
use Rattle.search_next.proofs.Ended.{goal-reported, goal-stays}
use Rattle.search_next.proofs.ends.report_goal.Goals as goal

pub returns-then-u-eq0 : goal.returns-then-u-eq0
returns-then-u-eq0 c = let a = c.args in
    goal-reported a.n a.m a.f.now c.report_new.new.f a.u.now c.requires (eq-eqb _ _ c.if-u-eq0.true) c.report_new.ensures

pub returns : goal.returns
returns c = let a = c.args in goal-stays a.n a.m a.f.now a.u.now c.requires (ne_eqb _ _ c.if-u-eq0.false)
