use Rattle.search_next.proofs.Taken.{broken-trial, broken-goal}
use borrow.Author.Tests.{eq-eqb, ne_eqb}
use Rattle.search_next.proofs.end_told.Goals as goal

pub returns-then-u-eq-PHASE_TRIAL : goal.returns-then-u-eq-PHASE_TRIAL
returns-then-u-eq-PHASE_TRIAL c = let a = c.args in broken-trial a.n a.m a.f.now _ a.u.now _ c.requires (eq-eqb _ _ c.if-u-eq-PHASE_TRIAL.true) c.end_with.ensures

pub returns : goal.returns
returns c = let a = c.args in broken-goal a.n a.m a.f.now _ a.u.now _ (ne_eqb _ _ c.if-u-eq-PHASE_TRIAL.false) c.end_goal.ensures
