-- `factor`: its size is at most 256.
use native.Mathlib.Omega.{arith}
use Rattle.problem_read.proofs.Areas.{square}
use Rattle.problem_read.proofs.tables.factor.Goals as goal

pub overflow_mul-n : goal.overflow_mul-n
overflow_mul-n c = omega (arith, square c.args.n c.args.n c.requires.0 c.requires.0)

pub part-requires : goal.part-requires
part-requires c = omega (arith, c.requires, square c.args.n c.args.n c.requires.0 c.requires.0)

pub returns : goal.returns
returns c = c.part.ensures
