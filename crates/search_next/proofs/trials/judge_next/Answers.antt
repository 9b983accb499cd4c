use Rattle.search_next.proofs.Judged.{judge-taken, judge-again, judge-last, judge-reset}
use borrow.Author.Tests.{eq-eqb, ne_eqb}
use mathlib.Core.Path.{sym, ◌∙◌}
use native.Mathlib.Omega.{arith}
use Rattle.search_next.proofs.trials.judge_next.Goals as goal

pub returns-then-is_enough : goal.returns-then-is_enough
returns-then-is_enough c = let a = c.args in judge-taken a.n a.m a.told.now a.f.now _ a.u.now _ c.merit_of-merit.result c.merit_of-merit.ensures (sym (c.is_enough.ensures a.n) ∙ c.if-is_enough.true) c.take_trial.ensures

pub returns-then-again-gt0 : goal.returns-then-again-gt0
returns-then-again-gt0 c = let a = c.args in judge-again a.n a.m a.told.now a.f.now _ a.u.now _ c.merit_of-merit.result c.shorter_of-alpha.result c.merit_of-merit.ensures (sym (c.is_enough.ensures a.n) ∙ c.if-is_enough.false) (omega arith) (c.shorter_of-alpha.ensures a.n) c.try_next.ensures

pub returns-then-u-eq1 : goal.returns-then-u-eq1
returns-then-u-eq1 c = let a = c.args in judge-last a.n a.m a.told.now a.f.now _ a.u.now _ c.merit_of-merit.result c.merit_of-merit.ensures (sym (c.is_enough.ensures a.n) ∙ c.if-is_enough.false) (omega arith) (eq-eqb _ _ c.if-u-eq1.true) c.take_trial-then-u-eq1.ensures

pub returns : goal.returns
returns c = let a = c.args in judge-reset a.n a.m a.told.now a.f.now _ a.u.now _ c.merit_of-merit.result c.merit_of-merit.ensures (sym (c.is_enough.ensures a.n) ∙ c.if-is_enough.false) (omega arith) (ne_eqb _ _ c.if-u-eq1.false) c.reset_next.ensures
