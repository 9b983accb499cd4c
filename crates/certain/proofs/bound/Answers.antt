use Rattle.certain.specs.Bound.{bound}
use Rattle.interval.specs.Intervals.{root_up}
use mathlib.Core.Path.{ap, ◌∙◌}
use Rattle.certain.proofs.bound.Goals as goal

pub reach_up-r-requires : goal.reach_up-r-requires
reach_up-r-requires c = c.requires

pub returns : goal.returns
unfolding bound
returns c = c.root_up.ensures ∙ ap root_up c.reach_up-r.ensures
