-- `Step::solve`: no bound is tested.
use Rattle.step_call.specs.Strict.{bounds}
use Rattle.step_call.proofs.Step.solve.Goals as goal

pub returns : goal.returns
unfolding bounds
returns c = c.solve_tested.ensures
