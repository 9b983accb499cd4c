use Rattle.day_volumes.proofs.Posing.{own_same, own-other}
use Rattle.day_volumes.proofs.pose.own.Goals as goal

pub returns-then-same : goal.returns-then-same
returns-then-same c = own_same _ _ c.if-same.true

pub returns : goal.returns
returns c = own-other _ _ c.if-same.false
