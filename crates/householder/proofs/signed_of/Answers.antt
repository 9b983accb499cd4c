use Rattle.workspace.proofs.Readings.{lit-+0}
use Rattle.householder.proofs.signed_of.Goals as goal

pub returns-then-head : goal.returns-then-head
returns-then-head c = rw (rw lit-+0 at c.if-head.true)

pub returns : goal.returns
returns c = rw (rw lit-+0 at c.if-head.false)
