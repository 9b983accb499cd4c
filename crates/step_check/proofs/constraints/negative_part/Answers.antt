-- `negative_part`: by its test.
use Rattle.workspace.proofs.Readings.{lit-+0}
use Rattle.step_check.specs.Check.{negative}
use Rattle.step_check.proofs.constraints.negative_part.Goals as goal

pub returns-then-l : goal.returns-then-l
unfolding negative
returns-then-l c = rw (← lit-+0, c.if-l.true)

pub returns : goal.returns
unfolding negative
returns c = rw (← lit-+0, c.if-l.false)
