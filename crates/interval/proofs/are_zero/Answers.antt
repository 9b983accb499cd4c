use mathlib.Core.Path.{◌∙◌}
use Rattle.interval.proofs.Answers.{zeros-then, zeros-not}
use Rattle.interval.proofs.are_zero.Goals as goal

pub returns-then-x : goal.returns-then-x
returns-then-x c = zeros-then _ _ c.if-x.true

pub returns-else-x : goal.returns-else-x
returns-else-x c = c.if-x.false ∙ zeros-not _ _ c.if-x.false
