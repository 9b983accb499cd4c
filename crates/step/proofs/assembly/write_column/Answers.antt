-- `write_column`: a part of a row, and blank entries below.
use native.Mathlib.Omega.{arith}
use Rattle.numbers.proofs.Lists.{row_fits}
use Rattle.step.proofs.Matrices.{column-written}
use Rattle.step.proofs.assembly.write_column.Goals as goal

pub overflow_mul-j : goal.overflow_mul-j
overflow_mul-j c = omega (arith, row_fits c.args.n c.args.n c.args.j c.requires.1, c.requires.2)

pub copy_strided-requires : goal.copy_strided-requires
copy_strided-requires c = let f = row_fits c.args.n c.args.n c.args.j c.requires.1 in
    (λ t h. omega (arith, f, c.requires.2), omega arith)

pub returns : goal.returns
returns c = let a = c.args in
    column-written _ a.n a.j a.factor.now _ _ _ (omega arith) c.copy_strided.ensures c.blank.ensures
