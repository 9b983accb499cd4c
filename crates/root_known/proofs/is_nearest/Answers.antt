-- `is_nearest`: the square in two parts, and the comparison.
use mathlib.Core.Bool.{false≢true}
use native.Mathlib.Omega.{arith}
use borrow.Author.Tests.{leb-true}
use Rattle.root_known.proofs.Nearest.{cross-le, heads-le, tails-le, square-is, compared}
use Rattle.root_known.proofs.is_nearest.Goals as goal

pub overflow_mul-cross : goal.overflow_mul-cross
overflow_mul-cross c = omega (arith, cross-le c.args.c c.requires.1)

pub overflow_mul-high : goal.overflow_mul-high
overflow_mul-high c = omega (arith, heads-le c.args.c c.requires.1)

pub overflow_add-high : goal.overflow_add-high
overflow_add-high c = omega (arith, heads-le c.args.c c.requires.1, cross-le c.args.c c.requires.1)

pub overflow_mul-rest-2 : goal.overflow_mul-rest-2
overflow_mul-rest-2 c = omega (arith, tails-le c.args.c c.requires.1)

pub overflow_add-rest : goal.overflow_add-rest
overflow_add-rest c = omega (arith, tails-le c.args.c c.requires.1)

pub returns-then-m-high : goal.returns-then-m-high
returns-then-m-high c = λ e. absurd (false≢true e)

pub returns-then-ahead-gt8 : goal.returns-then-ahead-gt8
returns-then-ahead-gt8 c = λ e. absurd (false≢true e)

pub overflow_add-square : goal.overflow_add-square
overflow_add-square c = omega (arith, tails-le c.args.c c.requires.1)

pub returns-then-mine-c : goal.returns-then-mine-c
returns-then-mine-c c = λ e. absurd (false≢true e)

pub overflow_add-result : goal.overflow_add-result
overflow_add-result c = omega (arith, tails-le c.args.c c.requires.1)

pub returns : goal.returns
returns c = λ e.
    compared c.args.m c.args.c _ _ (square-is c.args.c c.requires.1) c.if-m-high.false c.if-mine-c.false (leb-true _ _ e)
