-- `overlap_of`: a sum.
use mathlib.Core.Path.{◌∙◌}
use Rattle.suspect.proofs.Measures.{overlap-in}
use Rattle.suspect.proofs.measure.overlap_of.Goals as goal

pub returns : goal.returns
returns c = c.dot_within.ensures ∙ overlap-in _ _ _ _ _ c.requires.1 c.requires.2 c.requires.3
