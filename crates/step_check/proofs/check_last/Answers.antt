-- `check_last`: three tests on the same rows.
use Rattle.std.proofs.lemmas.Result.{err_from_is_err_and}
use Rattle.step_check.proofs.First.{says_first, says-next}
use Rattle.step_check.proofs.check_last.Goals as goal

pub returns-in_err-check_inequalities : goal.returns-in_err-check_inequalities
returns-in_err-check_inequalities c = let p = err_from_is_err_and c.from_residual.result c.from_residual.ensures.1 in rw (p.1, p.2) (says_first _ _ _ _ c.check_inequalities.ensures c.in_err-check_inequalities.was)

pub returns-in_err-check_inequalities-2 : goal.returns-in_err-check_inequalities-2
returns-in_err-check_inequalities-2 c = let p = err_from_is_err_and c.from_residual-in_err-check_inequalities-2.result c.from_residual-in_err-check_inequalities-2.ensures.1 in rw (p.1, p.2) (says-next _ _ _ _ c.check_inequalities.ensures c.in_ok-check_inequalities.was (says_first _ _ _ _ c.check_inequalities-2.ensures c.in_err-check_inequalities-2.was))

pub returns : goal.returns
returns c = says-next _ _ _ _ c.check_inequalities.ensures c.in_ok-check_inequalities.was (says-next _ _ _ _ c.check_inequalities-2.ensures c.in_ok-check_inequalities-2.was c.check_inequalities-3.ensures)
