-- `push_band`: a row, and the row negated.
use Rattle.step_rows.proofs.Pushing.{pushed-two}
use Rattle.step_rows.proofs.push_band.Goals as goal

pub returns : goal.returns
returns c = pushed-two _ _ _ _ _ _ _ _ c.push_row.ensures c.push_row_negated.ensures
