use Rattle.interval.proofs.Answers.{div_is, div-none}
use Rattle.interval.proofs.div_up.Goals as goal

pub returns-then-is_positive : goal.returns-then-is_positive
returns-then-is_positive c = div_is _ _ _ _ c.is_positive.ensures c.if-is_positive.true c.next_up.ensures

pub returns : goal.returns
returns c = div-none _ _ _ c.is_positive.ensures c.if-is_positive.false
