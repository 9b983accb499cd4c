-- `write_matrix`: the columns, and the last one.
use native.Mathlib.Omega.{arith}
use Rattle.step.proofs.Matrices.{matrix-written}
use Rattle.step.proofs.assembly.write_matrix.Goals as goal

pub returns : goal.returns
returns c = matrix-written _ _ _ _ _ _ (omega arith) c.write_columns.ensures c.write_unit.ensures
