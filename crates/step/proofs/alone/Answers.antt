-- `alone`: how the exact problem's stage ended.
use Rattle.step.specs.inner.Work.{unrelaxed}
use Rattle.step.proofs.alone.Goals as goal

pub returns : goal.returns
unfolding unrelaxed
returns c = rw c.stage_of.ensures
