use mathlib.Core.Path.{ap, ◌∙◌}
use Rattle.interval.specs.Next.{next_up}
use Rattle.interval.proofs.root_up.Goals as goal

pub returns : goal.returns
returns c = c.next_up.ensures ∙ ap next_up c.sqrt.ensures
