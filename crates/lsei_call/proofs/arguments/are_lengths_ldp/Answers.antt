-- `are_lengths_ldp`, each way out by its tests.
use native.Mathlib.Nat.{mul-le-mul}
use native.Mathlib.Omega.{arith}
use borrow.Author.Tests.{eq-eqb, ne_eqb}
use Rattle.lsei_call.proofs.arguments.are_lengths_ldp.Goals as goal

pub overflow_mul-m : goal.overflow_mul-m
overflow_mul-m c = omega (arith, mul-le-mul c.requires.0 c.requires.1)

pub returns-then-g-m : goal.returns-then-g-m
returns-then-g-m c = rw (ne_eqb _ _ c.if-g-m.true)

pub returns-then-h-m : goal.returns-then-h-m
returns-then-h-m c = rw (eq-eqb _ _ c.if-g-m.false, ne_eqb _ _ c.if-h-m.true)

pub returns-then-x-n : goal.returns-then-x-n
returns-then-x-n c = rw (eq-eqb _ _ c.if-g-m.false, eq-eqb _ _ c.if-h-m.false, ne_eqb _ _ c.if-x-n.true)

pub returns : goal.returns
returns c = rw (eq-eqb _ _ c.if-g-m.false, eq-eqb _ _ c.if-h-m.false, eq-eqb _ _ c.if-x-n.false)
