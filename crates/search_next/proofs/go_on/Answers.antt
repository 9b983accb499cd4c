use Rattle.search_next.proofs.Told.{told-values, told-slopes, told-single, heard-rows, resume-trial, resume-slopes, resume-single}
use Rattle.numbers.specs.Numbers.{nth}
use mathlib.Core.Path.{refl}
use native.Mathlib.Omega.{arith}
use Rattle.search_next.proofs.go_on.Goals as goal

pub judge_next-requires : goal.judge_next-requires
judge_next-requires c = let a = c.args in let r = c.requires in (r.1, r.2, r.3, told-values a.n a.m 2 a.told.now a.f.now a.u.now r.0 r.1 c.if-u-eq-PHASE_TRIAL.true (omega arith) (omega arith))

pub returns-then-u-eq-PHASE_TRIAL : goal.returns-then-u-eq-PHASE_TRIAL
returns-then-u-eq-PHASE_TRIAL c = let a = c.args in resume-trial a.n a.m a.told.now a.f.now _ a.u.now _ c.if-u-eq-PHASE_TRIAL.true c.judge_next.ensures

pub slopes_told-requires : goal.slopes_told-requires
slopes_told-requires c = let a = c.args in let r = c.requires in (r.1, r.2, r.3, told-slopes a.n a.m a.told.now a.f.now a.u.now r.0 r.1 c.if-u-eq-PHASE_SLOPES.true)

pub returns-then-u-eq-PHASE_SLOPES : goal.returns-then-u-eq-PHASE_SLOPES
returns-then-u-eq-PHASE_SLOPES c = let a = c.args in resume-slopes a.n a.m a.told.now a.f.now _ a.u.now _ c.if-u-eq-PHASE_TRIAL.false c.if-u-eq-PHASE_SLOPES.true c.slopes_told.ensures

pub bounds-told-0 : goal.bounds-told-0
bounds-told-0 c = let a = c.args in let r = c.requires in let z = told-single (nth a.u.now 0) a.told.now a.f.now a.u.now r.0 refl (omega arith) in omega arith

pub single_next-requires : goal.single_next-requires
single_next-requires c = let a = c.args in let r = c.requires in let h = heard-rows a.n a.m a.told.now a.f.now a.u.now r.0 r.1 in (r.1, r.2, r.3, h.0, h.1)

pub returns : goal.returns
returns c = let a = c.args in resume-single a.n a.m a.told.now a.f.now _ a.u.now _ c.if-u-eq-PHASE_TRIAL.false c.if-u-eq-PHASE_SLOPES.false c.single_next.ensures
