-- `after`: how both stages ended.
use Rattle.step.specs.inner.Work.{later}
use Rattle.step.proofs.after.Goals as goal

pub returns : goal.returns
unfolding later
returns c = rw (c.stage_of.ensures, c.stage_of-2.ensures)
