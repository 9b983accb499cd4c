use Rattle.certain.specs.Bound.{fit_term}
use Rattle.interval.specs.Intervals.{mul_up, div_up, magnitude, minus, times}
use Rattle.interval.specs.declared.Interval.{Interval}
use lib.Ieee.{Float}
use mathlib.Core.Path.{ap, ap₂, ◌∙◌}
use Rattle.certain.proofs.fit_term.Goals as goal

pub returns : goal.returns
unfolding fit_term
returns c = c.mul_up.ensures
    ∙ ap (λ (u : Float). mul_up u u)
    (c.div_up-u.ensures
    ∙ ap (λ (v : Float). div_up v c.args.s)
    (c.magnitude.ensures
    ∙ ap magnitude
    (c.sub-left.ensures
    ∙ ap₂ minus (c.sub-moved.ensures ∙ ap₂ minus c.of.ensures c.of-2.ensures)
    (c.mul-explained.ensures ∙ ap (λ (q : Interval). times q c.args.g) c.product.ensures))))
