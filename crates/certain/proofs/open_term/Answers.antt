use Rattle.certain.specs.Bound.{open_term}
use Rattle.interval.specs.Intervals.{mul_up, magnitude}
use mathlib.Core.Path.{ap, ap₂, ◌∙◌}
use Rattle.certain.proofs.open_term.Goals as goal

pub returns : goal.returns
unfolding open_term
returns c = c.mul_up.ensures ∙ ap₂ mul_up (c.magnitude.ensures ∙ ap magnitude c.of.ensures) c.magnitude-2.ensures
