use mathlib.Core.Path.{◌∙◌}
use Rattle.day_volumes.proofs.Laid.{row-times}
use native.Mathlib.Omega.{arith}
use Rattle.day_volumes.proofs.tables.row_times.Goals as goal

pub dot_strided-requires : goal.dot_strided-requires
dot_strided-requires c = let p = c.requires in record { by_index = λ i h. omega (arith, h, p.0, p.1); by_index_2 = λ i h. omega (arith, h, p.2) }

pub returns : goal.returns
returns c = c.dot_strided.ensures ∙ row-times _ _ _ _
