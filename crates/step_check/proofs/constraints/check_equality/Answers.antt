-- `check_equality`: one row, or none.
use Rattle.step_check.proofs.First.{none-fails}
use Rattle.step_check.proofs.constraints.check_equality.Goals as goal

pub returns-in-Floor : goal.returns-in-Floor
returns-in-Floor c = rw c.in-Floor.is (none-fails _ _)

pub returns-in-Band : goal.returns-in-Band
returns-in-Band c = rw c.in-Band.is (none-fails _ _)
