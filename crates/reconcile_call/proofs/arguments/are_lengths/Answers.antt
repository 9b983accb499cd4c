-- `are_lengths`, each way out by its tests.
use native.Mathlib.Nat.{mul-le-mul}
use native.Mathlib.Omega.{arith}
use borrow.Author.Tests.{eq-eqb, ne_eqb}
use Rattle.reconcile_call.proofs.arguments.are_lengths.Goals as goal

pub returns-then-before-n : goal.returns-then-before-n
returns-then-before-n c = rw (ne_eqb _ _ c.if-before-n.true)

pub returns-then-after-n : goal.returns-then-after-n
returns-then-after-n c = rw (eq-eqb _ _ c.if-before-n.false, ne_eqb _ _ c.if-after-n.true)

pub returns-then-spreads-n : goal.returns-then-spreads-n
returns-then-spreads-n c = rw (eq-eqb _ _ c.if-before-n.false, eq-eqb _ _ c.if-after-n.false, ne_eqb _ _ c.if-spreads-n.true)

pub overflow_mul-m : goal.overflow_mul-m
overflow_mul-m c = let p = c.requires in omega (arith, mul-le-mul p.1 p.0)

pub returns-then-balances-m : goal.returns-then-balances-m
returns-then-balances-m c = rw (eq-eqb _ _ c.if-before-n.false, eq-eqb _ _ c.if-after-n.false, eq-eqb _ _ c.if-spreads-n.false, ne_eqb _ _ c.if-balances-m.true)

pub returns-then-volumes-n : goal.returns-then-volumes-n
returns-then-volumes-n c = rw (eq-eqb _ _ c.if-before-n.false, eq-eqb _ _ c.if-after-n.false, eq-eqb _ _ c.if-spreads-n.false, eq-eqb _ _ c.if-balances-m.false, ne_eqb _ _ c.if-volumes-n.true)

pub returns : goal.returns
returns c = rw (eq-eqb _ _ c.if-before-n.false, eq-eqb _ _ c.if-after-n.false, eq-eqb _ _ c.if-spreads-n.false, eq-eqb _ _ c.if-balances-m.false, eq-eqb _ _ c.if-volumes-n.false)
