-- `terms_at`: a dot of a column.
use mathlib.Core.Path.{◌∙◌}
use Rattle.numbers.proofs.Lists.{index-lt}
use Rattle.step_check.proofs.Sloping.{terms-are}
use native.Mathlib.Omega.{arith}
use Rattle.step_check.proofs.slopes.terms_at.Goals as goal

pub dot_strided-requires : goal.dot_strided-requires
dot_strided-requires c = record { by_index = λ j h. omega (arith, index-lt c.args.m c.args.n j c.args.i h c.requires.0, c.requires.1); by_index_2 = λ j h. omega (arith, c.requires.2) }

pub returns : goal.returns
returns c = c.dot_strided.ensures ∙ terms-are _ _ _ _ _
