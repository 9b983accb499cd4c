-- `correction_of`: a sum.
use mathlib.Core.Path.{◌∙◌}
use Rattle.suspect.proofs.Measures.{lean-in}
use Rattle.suspect.proofs.measure.correction_of.Goals as goal

pub returns : goal.returns
returns c = c.dot_within.ensures ∙ lean-in _ _ _ _ c.requires.1 c.requires.2
