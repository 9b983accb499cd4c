-- `halfway_at`: a dot of a part of a column.
use mathlib.Core.Path.{◌∙◌}
use Rattle.numbers.proofs.Lists.{row_fits}
use Rattle.step_check.proofs.Sloping.{halfway-is, below-fits}
use native.Mathlib.Omega.{arith}
use Rattle.step_check.proofs.slopes.halfway_at.Goals as goal

pub overflow_mul-p : goal.overflow_mul-p
overflow_mul-p c = omega (arith, row_fits c.args.n c.args.n c.args.k c.requires.0, c.requires.1)

pub overflow_add-p : goal.overflow_add-p
overflow_add-p c = omega (arith, row_fits c.args.n c.args.n c.args.k c.requires.0, c.requires.1)

pub dot_strided-requires : goal.dot_strided-requires
dot_strided-requires c = record { by_index = λ t h. omega (arith, below-fits c.args.n c.args.k t c.requires.0 h, c.requires.1); by_index_2 = λ t h. omega (arith, c.requires.2) }

pub returns : goal.returns
returns c = c.dot_strided.ensures ∙ halfway-is _ _ _ _
