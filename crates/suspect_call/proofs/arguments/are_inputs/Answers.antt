-- `tests/are_inputs`: each way out by its tests.
use native.Mathlib.Nat.{mul-le-mul}
use native.Mathlib.Omega.{arith}
use borrow.Author.Tests.{eq-eqb, ne_eqb}
use Rattle.suspect_call.proofs.arguments.are_inputs.Goals as goal

pub returns-then-values-n : goal.returns-then-values-n
returns-then-values-n c = rw (ne_eqb _ _ c.if-values-n.true)

pub returns-then-spreads-n : goal.returns-then-spreads-n
returns-then-spreads-n c = rw (eq-eqb _ _ c.if-values-n.false, ne_eqb _ _ c.if-spreads-n.true)

pub overflow_mul-m : goal.overflow_mul-m
overflow_mul-m c = let p = c.requires in omega (arith, mul-le-mul p.1 p.0)

pub returns-then-balances-m : goal.returns-then-balances-m
returns-then-balances-m c = rw (eq-eqb _ _ c.if-values-n.false, eq-eqb _ _ c.if-spreads-n.false, ne_eqb _ _ c.if-balances-m.true)

pub returns : goal.returns
returns c = rw (eq-eqb _ _ c.if-values-n.false, eq-eqb _ _ c.if-spreads-n.false, eq-eqb _ _ c.if-balances-m.false)
