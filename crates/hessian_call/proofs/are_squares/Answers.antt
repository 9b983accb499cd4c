-- `are_squares`: the tests in their order.
use native.Mathlib.Nat.{mul-le-mul}
use borrow.Author.Tests.{eq-eqb, ne_eqb}
use native.Mathlib.Omega.{arith}
use Rattle.hessian_call.proofs.are_squares.Goals as goal

pub overflow_mul-n : goal.overflow_mul-n
overflow_mul-n c = omega (arith, mul-le-mul c.requires c.requires)

pub returns-then-bn-n : goal.returns-then-bn-n
returns-then-bn-n c = rw (ne_eqb _ _ c.if-bn-n.true)

pub overflow_mul-result : goal.overflow_mul-result
overflow_mul-result c = omega arith

pub returns : goal.returns
returns c = rw (eq-eqb _ _ c.if-bn-n.false)
