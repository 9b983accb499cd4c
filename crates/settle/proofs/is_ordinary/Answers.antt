use Rattle.settle.proofs.Tries.{ordinary-is}
use Rattle.settle.proofs.is_ordinary.Goals as goal

pub returns-then-kept : goal.returns-then-kept
returns-then-kept c = ordinary-is _ _ c.if-kept.true
