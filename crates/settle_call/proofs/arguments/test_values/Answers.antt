-- `test_values`: what is still to test gives the answer.
use mathlib.Core.Path.{sym, ◌∙◌}
use native.Mathlib.Omega.{arith}
use Rattle.std.proofs.lemmas.Result.{err_from_is_err_and}
use Rattle.settle_call.proofs.Testing.{told-on, told-out, told-all}
use Rattle.settle_call.proofs.arguments.test_values.Goals as goal

pub returns-in_err-test_value : goal.returns-in_err-test_value
returns-in_err-test_value c = let p = err_from_is_err_and c.from_residual.result c.from_residual.ensures.1 in
    rw (p.1, p.2) (sym (c.loop-i.invariant.1 ∙ told-out _ _ _ _ (omega arith) (sym c.test_value.ensures ∙ c.in_err-test_value.was)))

pub loop-i-preserved : goal.loop-i-preserved
loop-i-preserved c = (omega arith, c.loop-i.invariant.1 ∙ told-on _ _ _ (omega arith) (sym c.test_value.ensures ∙ c.in_ok-test_value.was))

pub returns : goal.returns
returns c = sym (c.loop-i.invariant.1 ∙ told-all _ _ _ (omega arith))
