-- `check_step`: the five tests in their order.
use Rattle.std.proofs.lemmas.Result.{err_from_is_err_and}
use Rattle.step_check.specs.Check.{verdict}
use Rattle.step_check.proofs.First.{says_first, says-next}
use Rattle.step_check.proofs.check_step.Goals as goal

pub returns-in_err-check_slopes : goal.returns-in_err-check_slopes
unfolding verdict
returns-in_err-check_slopes c = let p = err_from_is_err_and c.from_residual.result c.from_residual.ensures.1 in rw (p.1, p.2) (says_first _ _ _ _ c.check_slopes.ensures c.in_err-check_slopes.was)

pub returns-in_err-check_equalities : goal.returns-in_err-check_equalities
unfolding verdict
returns-in_err-check_equalities c = let p = err_from_is_err_and c.from_residual-in_err-check_equalities.result c.from_residual-in_err-check_equalities.ensures.1 in rw (p.1, p.2) (says-next _ _ _ _ c.check_slopes.ensures c.in_ok-check_slopes.was (says_first _ _ _ _ c.check_equalities.ensures c.in_err-check_equalities.was))

pub returns : goal.returns
unfolding verdict
returns c = says-next _ _ _ _ c.check_slopes.ensures c.in_ok-check_slopes.was (says-next _ _ _ _ c.check_equalities.ensures c.in_ok-check_equalities.was c.check_last.ensures)
