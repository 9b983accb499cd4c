-- `push_loosened_negated`: a row with what loosens it.
use Rattle.step_rows.specs.Problem.{loosened_row}
use Rattle.step_rows.proofs.relaxed.push_loosened_negated.Goals as goal

pub returns : goal.returns
unfolding loosened_row
returns c = rw (← c.loosening.ensures) c.push_wide_negated.ensures
