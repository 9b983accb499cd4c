use mathlib.Core.Path.{ap, ap₂, ◌∙◌}
use Rattle.interval.proofs.Answers.{ends}
use Rattle.interval.specs.Intervals.{times, smaller, larger}
use Rattle.interval.specs.Next.{next_up, next_down}
use Rattle.interval.proofs.Interval.mul.Goals as goal

pub returns : goal.returns
unfolding times
returns c = ap₂ ends (c.next_down.ensures ∙ ap next_down (c.smaller-3.ensures ∙ ap₂ smaller c.smaller.ensures c.smaller-2.ensures))
    (c.next_up.ensures ∙ ap next_up (c.larger-3.ensures ∙ ap₂ larger c.larger.ensures c.larger-2.ensures))
