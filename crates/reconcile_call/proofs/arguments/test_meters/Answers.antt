-- `test_meters`: what is still to test gives the answer.
use mathlib.Core.Path.{sym, ◌∙◌}
use native.Mathlib.Omega.{arith}
use Rattle.std.proofs.lemmas.Result.{err_from_is_err_and}
use Rattle.reconcile_call.proofs.Testing.{tested-on, tested-out, tested-all}
use Rattle.reconcile_call.proofs.arguments.test_meters.Goals as goal

pub returns-in_err-test_meter : goal.returns-in_err-test_meter
returns-in_err-test_meter c = let p = err_from_is_err_and c.from_residual.result c.from_residual.ensures.1 in
    rw (p.1, p.2) (sym (c.loop-i.invariant.1 ∙ tested-out _ _ _ _ _ _ (omega arith) (sym c.test_meter.ensures ∙ c.in_err-test_meter.was)))

pub loop-i-preserved : goal.loop-i-preserved
loop-i-preserved c = (omega arith, c.loop-i.invariant.1 ∙ tested-on _ _ _ _ _ (omega arith) (sym c.test_meter.ensures ∙ c.in_ok-test_meter.was))

pub returns : goal.returns
returns c = sym (c.loop-i.invariant.1 ∙ tested-all _ _ _ _ _ (omega arith))
