-- `check_floor`: no row, one, or two.
use Rattle.step_check.proofs.First.{none-fails}
use Rattle.step_check.proofs.constraints.check_floor.Goals as goal

pub returns-in-Equality : goal.returns-in-Equality
returns-in-Equality c = rw c.in-Equality.is (none-fails _ _)
