-- `write_unit`: blank entries, and one of them set.
use native.Mathlib.Omega.{arith}
use Rattle.step_rows.proofs.Coefficients.{unit-written}
use Rattle.step_rows.proofs.write_unit.Goals as goal

pub returns : goal.returns
returns c = unit-written _ _ _ _ _ _ (omega arith) (omega arith) c.blank.ensures
