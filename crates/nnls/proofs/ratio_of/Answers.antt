-- `ratio_of`, each arm by its test.
use lib.Ieee.{of_bits}
use Rattle.nnls.proofs.Blockers.{ratio-gap, ratio-none}
use Rattle.nnls.proofs.ratio_of.Goals as goal

pub returns-then-gap : goal.returns-then-gap
unfolding of_bits
returns-then-gap c = ratio-gap _ _ c.if-gap.true

pub returns-else-gap : goal.returns-else-gap
unfolding of_bits
returns-else-gap c = ratio-none _ _ c.if-gap.false
