-- `push_lower`: nothing, or a unit.
use native.Mathlib.Omega.{arith}
use Rattle.step_rows.proofs.Pushing.{pushed_none}
use Rattle.workspace.proofs.Readings.{lit-one}
use Rattle.step_rows.proofs.push_lower.Goals as goal

pub returns-in-None : goal.returns-in-None
returns-in-None c = (omega arith, rw c.in-None.is (pushed_none _ _ _ _))

pub returns-in-Some : goal.returns-in-Some
returns-in-Some c = (omega arith, rw (c.in-Some.is, ← lit-one) c.push_unit.ensures)
