-- `Volumes::settle`: the tests, then the answer.
use mathlib.Core.Path.{sym, ◌∙◌}
use lib.ListN.{length}
use Rattle.std.proofs.lemmas.Result.{err_from_is_err_and}
use Rattle.settle.specs.Settle.{measured, settled}
use Rattle.settle_call.specs.Promise.{settle_call}
use Rattle.settle_call.proofs.Testing.{fitting, passed, stopped}
use Rattle.settle_call.proofs.Answers.{settle-stopped, settle-passed}
use Rattle.settle_call.proofs.Volumes.settle.Goals as goal

pub returns-in_err-test_call : goal.returns-in_err-test_call
returns-in_err-test_call c = let a = c.args in
    let d = measured a.n a.m a.p a.values.now a.spreads.now a.balances.now a.limits.now a.least.now in
    let p = err_from_is_err_and c.from_residual.result c.from_residual.ensures.1 in
    rw (p.1, p.2) (settle-stopped _ _ a.volumes.now a.multipliers.now a.w.now a.iw.now
    (stopped d a.tolerance (length a.volumes.now) (length a.multipliers.now) (length a.w.now) (length a.iw.now) (settled d a.tolerance) _ (sym c.test_call.ensures ∙ c.in_err-test_call.was)))

pub invariant_of-day : goal.invariant_of-day
invariant_of-day c = let a = c.args in
    let d = measured a.n a.m a.p a.values.now a.spreads.now a.balances.now a.limits.now a.least.now in
    let q = passed d a.tolerance (length a.volumes.now) (length a.multipliers.now) (length a.w.now) (length a.iw.now) (sym c.test_call.ensures ∙ c.in_ok-test_call.was) in
    let i = fitting d q.sizes-right q.data-has in
    record { few_values = i.n16; few_balances = i.m16; few_limits = i.p48; value = i.lv; spread = i.ls; balance = i.lb; limit = i.ll; least_of_limit = i.lf }

pub settle_all-requires : goal.settle_all-requires
settle_all-requires c = let a = c.args in
    let d = measured a.n a.m a.p a.values.now a.spreads.now a.balances.now a.limits.now a.least.now in
    let q = passed d a.tolerance (length a.volumes.now) (length a.multipliers.now) (length a.w.now) (length a.iw.now) (sym c.test_call.ensures ∙ c.in_ok-test_call.was) in
    (q.x_long, q.mu-long, q.floats-long, q.words_long)

pub returns : goal.returns
returns c = let a = c.args in
    let d = measured a.n a.m a.p a.values.now a.spreads.now a.balances.now a.limits.now a.least.now in
    let q = passed d a.tolerance (length a.volumes.now) (length a.multipliers.now) (length a.w.now) (length a.iw.now) (sym c.test_call.ensures ∙ c.in_ok-test_call.was) in
    settle-passed (settle_call d a.tolerance a.volumes.now a.multipliers.now a.w.now a.iw.now) _ c.settle_all.result _ _ _ _ _ _ _ _ (q.answers (settled d a.tolerance)) c.settle_all.ensures
