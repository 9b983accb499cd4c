-- `write_side`: f, and +0 behind it.
use mathlib.Core.Path.{refl}
use native.Mathlib.Omega.{arith}
use Rattle.workspace.specs.Readings.{vec}
use Rattle.workspace.proofs.Readings.{lit-+0}
use Rattle.step_rows.proofs.Pushing.{written_behind}
use Rattle.step.proofs.assembly.write_side.Goals as goal

pub returns : goal.returns
unfolding vec
returns c = rw (← lit-+0) (written_behind _ _ _ _ _ _ _ (omega arith) refl c.copy_up.ensures)
