-- `is_tolerance`: its literal is +0.
use Rattle.workspace.proofs.Readings.{lit-+0}
use Rattle.workspace.proofs.is_tolerance.Goals as goal

pub returns : goal.returns
returns c = rw (lit-+0)
