-- `check_sides`: the lower side, then the upper.
use Rattle.std.proofs.lemmas.Result.{err_from_is_err_and}
use Rattle.step_check.proofs.First.{join_first, join-next}
use Rattle.step_check.proofs.bounds.check_sides.Goals as goal

pub returns-in_err-check_lower : goal.returns-in_err-check_lower
returns-in_err-check_lower c = let p = err_from_is_err_and c.from_residual.result c.from_residual.ensures.1 in rw (p.1, p.2) (join_first _ _ _ _ _ _ (rw c.side_of-lower.ensures at c.check_lower.ensures) c.in_err-check_lower.was)

pub returns : goal.returns
returns c = join-next _ _ _ _ _ _ (rw c.side_of-lower.ensures at c.check_lower.ensures) c.in_ok-check_lower.was (rw c.side_of-upper.ensures at c.check_upper.ensures)
