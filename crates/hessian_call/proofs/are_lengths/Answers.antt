-- `are_lengths`: the tests in their order.
use native.Mathlib.Omega.{arith}
use native.Mathlib.Nat.{mul-le-mul}
use borrow.Author.Tests.{eq-eqb, ne_eqb}
use Rattle.hessian_call.proofs.are_lengths.Goals as goal

pub overflow_mul-n : goal.overflow_mul-n
overflow_mul-n c = omega (arith, mul-le-mul c.requires c.requires)

pub returns-then-bn-n : goal.returns-then-bn-n
returns-then-bn-n c = rw (ne_eqb _ _ c.if-bn-n.true)

pub returns-then-sn-n : goal.returns-then-sn-n
returns-then-sn-n c = rw (eq-eqb _ _ c.if-bn-n.false, ne_eqb _ _ c.if-sn-n.true)

pub returns : goal.returns
returns c = rw (eq-eqb _ _ c.if-bn-n.false, eq-eqb _ _ c.if-sn-n.false)
