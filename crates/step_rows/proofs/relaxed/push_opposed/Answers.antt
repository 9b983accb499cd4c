-- `push_opposed`: a row, and the row negated.
use Rattle.step_rows.specs.Problem.{opposed_rows}
use Rattle.step_rows.proofs.Pushing.{pushed-two}
use Rattle.step_rows.proofs.relaxed.push_opposed.Goals as goal

pub returns : goal.returns
unfolding opposed_rows
returns c = pushed-two _ _ _ _ _ _ _ _ c.push_wide.ensures c.push_wide_negated.ensures
