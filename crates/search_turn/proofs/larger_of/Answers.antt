use Rattle.search_turn.proofs.Floats.{larger-nan, larger-second, larger-first}
use Rattle.search_turn.proofs.larger_of.Goals as goal

pub returns-then-x : goal.returns-then-x
returns-then-x c = larger-nan _ _ c.if-x.true

pub returns-then-x-y : goal.returns-then-x-y
returns-then-x-y c = larger-second _ _ c.if-x.false c.if-x-y.true

pub returns : goal.returns
returns c = larger-first _ _ c.if-x.false c.if-x-y.false
