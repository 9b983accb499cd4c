-- `push_loosened_band`: a row, and the row negated.
use Rattle.step_rows.proofs.Pushing.{pushed-two}
use Rattle.step_rows.proofs.relaxed.push_loosened_band.Goals as goal

pub returns : goal.returns
returns c = pushed-two _ _ _ _ _ _ _ _ c.push_loosened.ensures c.push_loosened_negated.ensures
