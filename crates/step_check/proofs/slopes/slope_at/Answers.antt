-- `slope_at`: the parts one after the other.
use mathlib.Core.Path.{◌∙◌}
use Rattle.step_check.specs.Check.{slope}
use Rattle.step_check.proofs.slopes.slope_at.Goals as goal

pub returns : goal.returns
unfolding slope
returns c = c.plus_upper.ensures ∙ rw (c.side_of-2.ensures, c.less_lower-u.ensures, c.side_of.ensures, c.terms_at-held.ensures, c.curved_at-bent.ensures)
