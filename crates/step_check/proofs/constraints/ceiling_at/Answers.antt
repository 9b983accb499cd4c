-- `ceiling_at`: a dot of a row negated.
use Rattle.step_check.proofs.Rows.{ceiling-is}
use Rattle.step_check.proofs.constraints.ceiling_at.Goals as goal

pub returns : goal.returns
returns c = ceiling-is _ _ _ _ _ _ _ c.opposed.ensures
