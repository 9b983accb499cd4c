use Rattle.settle.proofs.Working.{not_below_holds, not-below-not}
use Rattle.settle.proofs.again.not_below.Goals as goal

pub returns-then-v : goal.returns-then-v
returns-then-v c = not_below_holds _ c.if-v.true

pub returns : goal.returns
returns c = not-below-not _ c.if-v.false
