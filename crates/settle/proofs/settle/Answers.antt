-- `settle`: refused; LSEI's answer at once; the other; LSEI's after all.
use Rattle.settle.specs.Lent.{measured_in}
use Rattle.settle.specs.inner.Work.{settled_in}
use Rattle.settle.proofs.Tries.{refused-told, settled-first, settled-stays, settled-other}
use Rattle.std.proofs.lemmas.Result.{err_from_is_err_and}
use Rattle.settle.proofs.settle.Goals as goal

pub returns-in_err-e : goal.returns-in_err-e
returns-in_err-e c = let d = c.args.day.now in
    let p = err_from_is_err_and c.from_residual.result c.from_residual.ensures.1 in
    rw (p.1, p.2) (refused-told _ _ c.run_first-e.result _ (settled_in d.n d.m d.p c.run_first-e.new.w) _ c.in_err-e.was c.run_first-e.ensures)

pub returns-then-is_ordinary : goal.returns-then-is_ordinary
returns-then-is_ordinary c = let d = c.args.day.now in
    let R = c.run_first-e in
    let K = c.store_first in
    let J = c.judge-one in
    settled-first (measured_in d) c.args.tolerance R.result J.result R.new.w K.new.w d.few_values d.few_balances d.few_limits c.in_ok-e.was R.ensures K.ensures J.ensures _ c.is_ordinary.ensures c.if-is_ordinary.true

pub returns-then-is_better : goal.returns-then-is_better
returns-then-is_better c = let d = c.args.day.now in
    let R = c.run_first-e in
    let K = c.store_first in
    let J = c.judge-one in
    let G = c.judge_again-two in
    settled-other (measured_in d) c.args.tolerance R.result J.result R.new.w K.new.w d.few_values d.few_balances d.few_limits c.in_ok-e.was R.ensures K.ensures J.ensures G.result G.new.w _ c.is_ordinary.ensures c.if-is_ordinary.false G.ensures
    c.copy_down.new.w _ c.is_better.ensures c.if-is_better.true c.copy_down.ensures

pub returns : goal.returns
returns c = let d = c.args.day.now in
    let R = c.run_first-e in
    let K = c.store_first in
    let J = c.judge-one in
    let G = c.judge_again-two in
    settled-stays (measured_in d) c.args.tolerance R.result J.result R.new.w K.new.w d.few_values d.few_balances d.few_limits c.in_ok-e.was R.ensures K.ensures J.ensures G.result G.new.w _ c.is_ordinary.ensures c.if-is_ordinary.false G.ensures
    _ c.is_better.ensures c.if-is_better.false
