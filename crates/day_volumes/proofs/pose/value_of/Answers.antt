use Rattle.day_volumes.proofs.Posing.{value-meter, value_line, value-stock}
use Rattle.day_volumes.proofs.pose.value_of.Goals as goal

pub volume_of-requires : goal.volume_of-requires
volume_of-requires c = tt

pub int_to_float-result : goal.int_to_float-result
int_to_float-result c = tt

pub returns-then-kind-eq0 : goal.returns-then-kind-eq0
returns-then-kind-eq0 c = value-meter _ _ _ _ _ _ _ c.if-kind-eq0.true c.volume_of.ensures

pub returns-then-kind-eq1 : goal.returns-then-kind-eq1
returns-then-kind-eq1 c = value_line _ _ _ _ _ _ c.if-kind-eq0.false c.if-kind-eq1.true

pub returns : goal.returns
returns c = value-stock _ _ _ _ _ _ c.if-kind-eq0.false c.if-kind-eq1.false
