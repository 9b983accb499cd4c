-- `push_delta`: two units.
use Rattle.step_rows.specs.Problem.{delta_rows}
use Rattle.workspace.proofs.Readings.{lit-+0}
use Rattle.workspace.proofs.Readings.{lit-one}
use Rattle.step_rows.proofs.Pushing.{pushed-two}
use Rattle.step_rows.proofs.push_delta.Goals as goal

pub returns : goal.returns
unfolding delta_rows
returns c = rw (← lit-one, ← lit-+0) (pushed-two _ _ _ _ _ _ _ _ c.push_unit.ensures c.push_unit-2.ensures)
