-- `test_leasts`: what is still to test gives the answer.
use mathlib.Core.Path.{sym, ◌∙◌}
use native.Mathlib.Omega.{arith}
use Rattle.std.proofs.lemmas.Result.{err_from_is_err_and}
use Rattle.settle_call.proofs.Testing.{told-on, told-out, told-all}
use Rattle.settle_call.proofs.arguments.test_leasts.Goals as goal

pub returns-in_err-test_least : goal.returns-in_err-test_least
returns-in_err-test_least c = let p = err_from_is_err_and c.from_residual.result c.from_residual.ensures.1 in
    rw (p.1, p.2) (sym (c.loop-k.invariant.1 ∙ told-out _ _ _ _ (omega arith) (sym c.test_least.ensures ∙ c.in_err-test_least.was)))

pub loop-k-preserved : goal.loop-k-preserved
loop-k-preserved c = (omega arith, c.loop-k.invariant.1 ∙ told-on _ _ _ (omega arith) (sym c.test_least.ensures ∙ c.in_ok-test_least.was))

pub returns : goal.returns
returns c = sym (c.loop-k.invariant.1 ∙ told-all _ _ _ (omega arith))
