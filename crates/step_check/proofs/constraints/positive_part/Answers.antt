-- `positive_part`: by its test.
use Rattle.workspace.proofs.Readings.{lit-+0}
use Rattle.step_check.specs.Check.{positive}
use Rattle.step_check.proofs.constraints.positive_part.Goals as goal

pub returns-then-l : goal.returns-then-l
unfolding positive
returns-then-l c = rw (← lit-+0, c.if-l.true)

pub returns : goal.returns
unfolding positive
returns c = rw (← lit-+0, c.if-l.false)
