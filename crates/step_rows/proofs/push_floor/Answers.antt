-- `push_floor`: nothing, a row, or two.
use native.Mathlib.Omega.{arith}
use Rattle.step_rows.proofs.Pushing.{pushed_none}
use Rattle.step_rows.proofs.push_floor.Goals as goal

pub returns-in-Equality : goal.returns-in-Equality
returns-in-Equality c = (omega arith, rw c.in-Equality.is (pushed_none _ _ _ _))

pub returns-in-Floor : goal.returns-in-Floor
returns-in-Floor c = (omega arith, rw c.in-Floor.is c.push_row.ensures)

pub returns-in-Band : goal.returns-in-Band
returns-in-Band c = (omega arith, rw c.in-Band.is c.push_band.ensures)
