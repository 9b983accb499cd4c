-- `push_bound`: one side behind the other.
use native.Mathlib.Omega.{arith}
use Rattle.step_rows.proofs.Pushing.{pushed-both}
use Rattle.step_rows.proofs.push_bound.Goals as goal

pub returns : goal.returns
returns c = (omega arith, rw (← c.side_of.ensures, ← c.side_of-2.ensures) (pushed-both _ _ _ _ _ _ _ _ _ _ c.push_lower-c.ensures.1 c.push_upper.ensures.1))
