use Rattle.day_volumes.proofs.Posing.{stock-none, other-kept}
use Rattle.day_volumes.proofs.pose.unless_stock.Goals as goal

pub returns-then-kind-eq2 : goal.returns-then-kind-eq2
returns-then-kind-eq2 c = stock-none _ _ c.if-kind-eq2.true

pub returns : goal.returns
returns c = other-kept _ _ c.if-kind-eq2.false
