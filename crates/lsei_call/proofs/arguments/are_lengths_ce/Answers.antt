-- `are_lengths_ce`, each way out by its tests.
use native.Mathlib.Nat.{mul-le-mul}
use native.Mathlib.Omega.{arith}
use borrow.Author.Tests.{eq-eqb, ne_eqb}
use Rattle.lsei_call.proofs.arguments.are_lengths_ce.Goals as goal

pub overflow_mul-mc : goal.overflow_mul-mc
overflow_mul-mc c = omega (arith, mul-le-mul c.requires.1 c.requires.0)

pub returns-then-c-mc : goal.returns-then-c-mc
returns-then-c-mc c = rw (ne_eqb _ _ c.if-c-mc.true)

pub returns-then-d-mc : goal.returns-then-d-mc
returns-then-d-mc c = rw (eq-eqb _ _ c.if-c-mc.false, ne_eqb _ _ c.if-d-mc.true)

pub overflow_mul-me : goal.overflow_mul-me
overflow_mul-me c = let p = c.requires in omega (arith, mul-le-mul p.2 p.0)

pub returns-then-e-me : goal.returns-then-e-me
returns-then-e-me c = rw (eq-eqb _ _ c.if-c-mc.false, eq-eqb _ _ c.if-d-mc.false, ne_eqb _ _ c.if-e-me.true)

pub returns : goal.returns
returns c = rw (eq-eqb _ _ c.if-c-mc.false, eq-eqb _ _ c.if-d-mc.false, eq-eqb _ _ c.if-e-me.false)
