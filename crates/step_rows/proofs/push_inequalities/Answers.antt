-- `push_inequalities`: constraints, and bounds behind them.
use native.Mathlib.Omega.{arith}
use Rattle.step_rows.specs.Problem.{bound_rows, inequality_rows}
use Rattle.step_rows.proofs.Pushing.{pushed-both}
use Rattle.step_rows.proofs.push_inequalities.Goals as goal

pub returns : goal.returns
unfolding inequality_rows bound_rows
returns c = (omega arith, pushed-both _ _ _ _ _ _ _ _ _ _ c.push_floors-k.ensures.1 c.push_bounds.ensures.1)
