-- `check_band`: the floor, then the ceiling.
use mathlib.Core.List.{[], ◌∷◌}
use Rattle.std.proofs.lemmas.Result.{err_from_is_err_and}
use Rattle.step_check.proofs.First.{join_first, join-next}
use Rattle.step_check.proofs.constraints.check_band.Goals as goal

pub returns-in_err-judge : goal.returns-in_err-judge
returns-in_err-judge c = let p = err_from_is_err_and c.from_residual.result c.from_residual.ensures.1 in rw (p.1, p.2) (join_first _ _ (_ ∷ []) (_ ∷ []) _ _ (rw c.positive_part-up.ensures at c.judge.ensures) c.in_err-judge.was)

pub returns : goal.returns
returns c = join-next _ _ (_ ∷ []) (_ ∷ []) _ _ (rw c.positive_part-up.ensures at c.judge.ensures) c.in_ok-judge.was (rw c.negative_part-down.ensures at c.judge-2.ensures)
