use mathlib.Core.Path.{◌∙◌}
use Rattle.interval.proofs.Answers.{finite-then, finite-not}
use Rattle.interval.proofs.is_finite.Goals as goal

pub returns-then-x : goal.returns-then-x
returns-then-x c = finite-then _ c.if-x.true

pub returns-else-x : goal.returns-else-x
returns-else-x c = c.if-x.false ∙ finite-not _ c.if-x.false
