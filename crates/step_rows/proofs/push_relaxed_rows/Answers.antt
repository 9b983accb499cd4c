-- `push_relaxed_rows`: constraints, bounds, and the rows of delta.
use native.Mathlib.Omega.{arith}
use Rattle.step_rows.specs.Problem.{bound_rows, relaxed_rows}
use Rattle.step_rows.proofs.Pushing.{pushed-both}
use Rattle.step_rows.proofs.push_relaxed_rows.Goals as goal

pub returns : goal.returns
unfolding relaxed_rows bound_rows
returns c = (
  omega arith,
  pushed-both _ _ _ _ _ _ _ _ _ _ c.push_all_relaxed-k.ensures.1 (pushed-both _ _ _ _ _ _ _ _ _ _ c.push_bounds-c.ensures.1 c.push_delta.ensures),
)
