use Rattle.interval.proofs.Answers.{point-is, point-none}
use Rattle.interval.proofs.Interval.of.Goals as goal

pub returns-then-is_finite : goal.returns-then-is_finite
returns-then-is_finite c = point-is _ _ c.is_finite.ensures c.if-is_finite.true

pub returns : goal.returns
returns c = point-none _ _ _ c.is_finite.ensures c.if-is_finite.false c.line.ensures
