-- `Volumes::certify`: the tests, then the bound.
use mathlib.Core.Path.{sym, ap, ◌∙◌}
use mathlib.Core.List.{List, []}
use native.Mathlib.Omega.{arith}
use lib.ListN.{length, take, length-drop}
use lib.Seq.{length-take-le}
use lib.Ieee.{Float, binary64, of_bits}
use Rattle.std.proofs.lemmas.Result.{err_from_is_err_and}
use Rattle.workspace.specs.Tables.{done}
use Rattle.workspace.proofs.Parts.{lent_is}
use Rattle.settle.specs.Settle.{measured, certified}
use Rattle.settle_call.specs.Promise.{reported}
use Rattle.settle_call.proofs.Testing.{fitting, passed, stopped}
use Rattle.settle_call.proofs.Answers.{certify-is, certify-stopped, certified-all}
use Rattle.settle_call.proofs.Volumes.certify.Goals as goal

pub returns-in_err-test_call : goal.returns-in_err-test_call
returns-in_err-test_call c = let a = c.args in
    let d = measured a.n a.m a.p a.values.now a.spreads.now a.balances.now a.limits.now a.least.now in
    let s = stopped d (of_bits binary64 0) (length a.volumes.now) (length a.multipliers.now) (length a.w.now) (length a.iw.now) (done (reported d a.volumes.now a.multipliers.now)) _ (sym c.test_call.ensures ∙ c.in_err-test_call.was) in
    let p = err_from_is_err_and c.from_residual.result c.from_residual.ensures.1 in
    rw (p.1, p.2) (certify-stopped _ _ a.w.now a.iw.now (certify-is d a.volumes.now a.multipliers.now a.w.now a.iw.now ∙ s.0, s.1))

pub invariant_of-day : goal.invariant_of-day
invariant_of-day c = let a = c.args in
    let d = measured a.n a.m a.p a.values.now a.spreads.now a.balances.now a.limits.now a.least.now in
    let q = passed d (of_bits binary64 0) (length a.volumes.now) (length a.multipliers.now) (length a.w.now) (length a.iw.now) (sym c.test_call.ensures ∙ c.in_ok-test_call.was) in
    let i = fitting d q.sizes-right q.data-has in
    record { few_values = i.n16; few_balances = i.m16; few_limits = i.p48; value = i.lv; spread = i.ls; balance = i.lb; limit = i.ll; least_of_limit = i.lf }

pub slice_bounds-y-end : goal.slice_bounds-y-end
slice_bounds-y-end c = let a = c.args in
    let d = measured a.n a.m a.p a.values.now a.spreads.now a.balances.now a.limits.now a.least.now in
    let q = passed d (of_bits binary64 0) (length a.volumes.now) (length a.multipliers.now) (length a.w.now) (length a.iw.now) (sym c.test_call.ensures ∙ c.in_ok-test_call.was) in
    sym (length-take-le a.m a.multipliers.now (omega (arith, q.mu-long)))

pub offset_bounds-multipliers-m : goal.offset_bounds-multipliers-m
offset_bounds-multipliers-m c = let a = c.args in
    let d = measured a.n a.m a.p a.values.now a.spreads.now a.balances.now a.limits.now a.least.now in
    let q = passed d (of_bits binary64 0) (length a.volumes.now) (length a.multipliers.now) (length a.w.now) (length a.iw.now) (sym c.test_call.ensures ∙ c.in_ok-test_call.was) in
    omega (arith, (fitting d q.sizes-right q.data-has).m16)

pub slice_bounds-z-count : goal.slice_bounds-z-count
slice_bounds-z-count c = let a = c.args in
    let d = measured a.n a.m a.p a.values.now a.spreads.now a.balances.now a.limits.now a.least.now in
    let q = passed d (of_bits binary64 0) (length a.volumes.now) (length a.multipliers.now) (length a.w.now) (length a.iw.now) (sym c.test_call.ensures ∙ c.in_ok-test_call.was) in
    omega (arith, q.mu-long)

pub slice_bounds-z-start : goal.slice_bounds-z-start
slice_bounds-z-start c = let a = c.args in
    let d = measured a.n a.m a.p a.values.now a.spreads.now a.balances.now a.limits.now a.least.now in
    let q = passed d (of_bits binary64 0) (length a.volumes.now) (length a.multipliers.now) (length a.w.now) (length a.iw.now) (sym c.test_call.ensures ∙ c.in_ok-test_call.was) in
    omega (arith, q.mu-long)

pub bound-far-requires : goal.bound-far-requires
bound-far-requires c = let a = c.args in
    let d = measured a.n a.m a.p a.values.now a.spreads.now a.balances.now a.limits.now a.least.now in
    let q = passed d (of_bits binary64 0) (length a.volumes.now) (length a.multipliers.now) (length a.w.now) (length a.iw.now) (sym c.test_call.ensures ∙ c.in_ok-test_call.was) in
    let y = length-take-le a.m a.multipliers.now (omega (arith, q.mu-long)) in
    let z = ap length (lent_is a.m a.multipliers.now [] (omega (arith, q.mu-long))) ∙ length-drop a.m a.multipliers.now in
    (omega (arith, q.x_long), omega (arith, y), omega (arith, z, q.mu-long))

pub clear-requires : goal.clear-requires
clear-requires c = let a = c.args in
    let d = measured a.n a.m a.p a.values.now a.spreads.now a.balances.now a.limits.now a.least.now in
    let q = passed d (of_bits binary64 0) (length a.volumes.now) (length a.multipliers.now) (length a.w.now) (length a.iw.now) (sym c.test_call.ensures ∙ c.in_ok-test_call.was) in
    (q.floats-long, q.words_long)

pub returns : goal.returns
returns c = let a = c.args in
    let d = measured a.n a.m a.p a.values.now a.spreads.now a.balances.now a.limits.now a.least.now in
    let q = passed d (of_bits binary64 0) (length a.volumes.now) (length a.multipliers.now) (length a.w.now) (length a.iw.now) (sym c.test_call.ensures ∙ c.in_ok-test_call.was) in
    let r = reported d a.volumes.now a.multipliers.now in
    certified-all _ r _ a.w.now _ a.iw.now _ (certify-is d a.volumes.now a.multipliers.now a.w.now a.iw.now ∙ q.answers (done r))
    (c.bound-far.ensures ∙ ap (λ (z : List Float). (certified d a.volumes.now (take a.m a.multipliers.now) z).far) (lent_is a.m a.multipliers.now [] (omega (arith, q.mu-long)))) c.clear.ensures
