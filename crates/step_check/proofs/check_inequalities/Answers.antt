-- `check_inequalities`: constraints, then sides.
use Rattle.std.proofs.lemmas.Result.{err_from_is_err_and}
use Rattle.step_check.specs.Check.{inequalities}
use Rattle.step_check.proofs.First.{join_first, join-next}
use Rattle.step_check.proofs.check_inequalities.Goals as goal

pub returns-in_err-check_floors : goal.returns-in_err-check_floors
unfolding inequalities
returns-in_err-check_floors c = let p = err_from_is_err_and c.from_residual.result c.from_residual.ensures.1 in rw (p.1, p.2) (join_first _ _ _ _ _ _ c.check_floors.ensures c.in_err-check_floors.was)

pub returns : goal.returns
unfolding inequalities
returns c = join-next _ _ _ _ _ _ c.check_floors.ensures c.in_ok-check_floors.was c.check_bounds.ensures
