-- `check_lower`: one row, or none.
use Rattle.step_check.proofs.First.{none-fails}
use Rattle.step_check.proofs.bounds.check_lower.Goals as goal

pub returns-in-None : goal.returns-in-None
returns-in-None c = rw c.in-None.is (none-fails _ _)
