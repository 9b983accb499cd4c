-- `value_at`: a dot of a row.
use Rattle.step_check.proofs.Rows.{value-is}
use Rattle.step_check.proofs.constraints.value_at.Goals as goal

pub returns : goal.returns
returns c = value-is _ _ _ _ _ _ c.dot_strided.ensures
