-- `push_unit`: a unit and its side.
use native.Mathlib.Omega.{arith}
use Rattle.step_rows.proofs.Coefficients.{unit-is}
use Rattle.step_rows.proofs.Pushing.{pushed_row}
use Rattle.step_rows.proofs.push_unit.Goals as goal

pub returns : goal.returns
returns c = let a = c.args in
    pushed_row _ _ _ _ _ _ _ _ (omega arith) (omega arith) (unit-is a.n a.i a.v) c.write_unit.ensures
