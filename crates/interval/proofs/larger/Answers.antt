use Rattle.interval.proofs.Answers.{larger-first, larger-second, larger-none}
use Rattle.interval.proofs.larger.Goals as goal

pub returns-then-x-y : goal.returns-then-x-y
returns-then-x-y c = larger-second _ _ c.if-x-y.true

pub returns-then-y-x : goal.returns-then-y-x
returns-then-y-x c = larger-first _ _ c.if-x-y.false c.if-y-x.true

pub returns : goal.returns
returns c = larger-none _ _ c.if-x-y.false c.if-y-x.false
