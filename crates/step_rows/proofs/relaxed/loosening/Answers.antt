use Rattle.workspace.proofs.Readings.{lit-+0}
use Rattle.step_rows.proofs.relaxed.loosening.Goals as goal

pub returns-then-c : goal.returns-then-c
returns-then-c c = rw (← lit-+0, c.if-c.true)

pub returns-else-c : goal.returns-else-c
returns-else-c c = rw (← lit-+0, c.if-c.false)
