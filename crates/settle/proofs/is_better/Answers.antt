use Rattle.settle.proofs.Tries.{better-and, better-or-not}
use Rattle.settle.proofs.is_better.Goals as goal

pub returns-then-again : goal.returns-then-again
returns-then-again c = better-and _ _ _ _ c.if-kept.true c.if-again.true

pub returns-else-again-2 : goal.returns-else-again-2
returns-else-again-2 c = better-or-not _ _ _ _ c.if-kept.false c.if-again-2.false
