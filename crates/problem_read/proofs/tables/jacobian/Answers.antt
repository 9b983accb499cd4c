-- `jacobian`: its size is at most 256.
use native.Mathlib.Omega.{arith}
use Rattle.problem_read.proofs.Areas.{square}
use Rattle.problem_read.proofs.tables.jacobian.Goals as goal

pub overflow_mul-m : goal.overflow_mul-m
overflow_mul-m c = omega (arith, square c.args.m c.args.n c.requires.0 c.requires.1)

pub part-requires : goal.part-requires
part-requires c = omega (arith, c.requires, square c.args.m c.args.n c.requires.0 c.requires.1)

pub returns : goal.returns
returns c = c.part.ensures
