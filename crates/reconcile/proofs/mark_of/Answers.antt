-- `mark_of`: below zero, NaN, or neither.
use Rattle.reconcile.proofs.Names.{mark-below, mark-nan, mark-neither}
use Rattle.reconcile.proofs.mark_of.Goals as goal

pub returns-then-v : goal.returns-then-v
returns-then-v c = mark-below _ c.if-v.true

pub returns-then-v-2 : goal.returns-then-v-2
returns-then-v-2 c = mark-nan _ c.if-v-2.true

pub returns : goal.returns
returns c = mark-neither _ c.if-v.false c.if-v-2.false
