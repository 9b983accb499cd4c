-- `is_width`: a band's width that is at least zero is finite or not.
use Rattle.workspace.proofs.Readings.{lit-+0}
use Rattle.step_call.proofs.Widths.{lit-infinity}
use Rattle.step_call.proofs.is_width.Goals as goal

pub returns-then-w : goal.returns-then-w
returns-then-w c = rw (← c.of.ensures, c.in-Band.is, lit-infinity, ← lit-+0, c.if-w.true)
