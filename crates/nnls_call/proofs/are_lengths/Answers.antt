-- `are_lengths`, each way out by its tests.
use native.Mathlib.Nat.{mul-le-mul}
use native.Mathlib.Omega.{arith}
use borrow.Author.Tests.{eq-eqb, ne_eqb}
use Rattle.nnls_call.proofs.are_lengths.Goals as goal

pub overflow_mul-m : goal.overflow_mul-m
overflow_mul-m c = omega (arith, mul-le-mul c.requires.0 c.requires.1)

pub returns-then-a-m : goal.returns-then-a-m
returns-then-a-m c = rw (ne_eqb _ _ c.if-a-m.true)

pub returns-then-b-m : goal.returns-then-b-m
returns-then-b-m c = rw (eq-eqb _ _ c.if-a-m.false, ne_eqb _ _ c.if-b-m.true)

pub returns : goal.returns
returns c = rw (eq-eqb _ _ c.if-a-m.false, eq-eqb _ _ c.if-b-m.false)
