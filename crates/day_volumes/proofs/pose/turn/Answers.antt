use Rattle.day_volumes.proofs.Posing.{turn-ceiling, turn-floor}
use Rattle.day_volumes.proofs.pose.turn.Goals as goal

pub returns-then-kind-eq1 : goal.returns-then-kind-eq1
returns-then-kind-eq1 c = turn-ceiling _ _ c.if-kind-eq1.true

pub returns : goal.returns
returns c = turn-floor _ _ c.if-kind-eq1.false
