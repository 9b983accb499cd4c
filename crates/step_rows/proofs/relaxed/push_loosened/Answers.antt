-- `push_loosened`: a row with what loosens it.
use Rattle.step_rows.specs.Problem.{loosened_row}
use Rattle.step_rows.proofs.relaxed.push_loosened.Goals as goal

pub returns : goal.returns
unfolding loosened_row
returns c = rw (← c.loosening.ensures) c.push_wide.ensures
