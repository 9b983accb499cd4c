-- `judge_slope`: a slope has no multiplier.
use Rattle.workspace.proofs.Readings.{lit-+0}
use Rattle.step_check.proofs.slopes.judge_slope.Goals as goal

pub returns : goal.returns
returns c = rw lit-+0 at c.judge.ensures
