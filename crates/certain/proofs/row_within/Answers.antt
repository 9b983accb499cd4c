use Rattle.certain.proofs.Laws.{row_is, index_in}
use native.Mathlib.Omega.{arith}
use Rattle.certain.proofs.row_within.Goals as goal

pub overflow_mul-j : goal.overflow_mul-j
overflow_mul-j c = omega (arith, c.requires.2)

pub dot_strided-requires : goal.dot_strided-requires
dot_strided-requires c = record { by_index = c.requires.0; by_index_2 = λ i l. index_in _ _ _ l c.requires.1 }

pub returns : goal.returns
returns c = row_is _ _ _ _ _ c.dot_strided.ensures
