use mathlib.Core.Path.{◌∙◌}
use Rattle.interval.proofs.Answers.{positive-then, positive-not}
use Rattle.interval.proofs.is_positive.Goals as goal

pub returns-then-x : goal.returns-then-x
returns-then-x c = positive-then _ c.if-x.true

pub returns-else-x : goal.returns-else-x
returns-else-x c = c.if-x.false ∙ positive-not _ c.if-x.false
