-- `Step::solve_strictly`: all bounds are tested.
use Rattle.step_call.specs.Strict.{bounds}
use Rattle.step_call.proofs.Step.solve_strictly.Goals as goal

pub returns : goal.returns
unfolding bounds
returns c = c.solve_tested.ensures
