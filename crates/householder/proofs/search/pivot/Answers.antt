-- `pivot`: the lead, and its norm.
use mathlib.Core.Path.{◌∙◌}
use Rattle.householder.proofs.search.pivot.Goals as goal

pub returns : goal.returns
returns c = let s = c.show_in.ensures in
    (s.0 ∙ c.lead_from-top.ensures, s.1)
