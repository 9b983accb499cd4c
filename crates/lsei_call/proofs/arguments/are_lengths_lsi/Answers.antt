-- `are_lengths_lsi`, each way out by its tests.
use native.Mathlib.Nat.{mul-le-mul}
use native.Mathlib.Omega.{arith}
use borrow.Author.Tests.{eq-eqb, ne_eqb}
use Rattle.lsei_call.proofs.arguments.are_lengths_lsi.Goals as goal

pub overflow_mul-me : goal.overflow_mul-me
overflow_mul-me c = omega (arith, mul-le-mul c.requires.1 c.requires.0)

pub returns-then-e-me : goal.returns-then-e-me
returns-then-e-me c = rw (ne_eqb _ _ c.if-e-me.true)

pub returns-then-f-me : goal.returns-then-f-me
returns-then-f-me c = rw (eq-eqb _ _ c.if-e-me.false, ne_eqb _ _ c.if-f-me.true)

pub overflow_mul-mg : goal.overflow_mul-mg
overflow_mul-mg c = let p = c.requires in omega (arith, mul-le-mul p.2 p.0)

pub returns-then-g-mg : goal.returns-then-g-mg
returns-then-g-mg c = rw (eq-eqb _ _ c.if-e-me.false, eq-eqb _ _ c.if-f-me.false, ne_eqb _ _ c.if-g-mg.true)

pub returns-then-h-mg : goal.returns-then-h-mg
returns-then-h-mg c = rw (eq-eqb _ _ c.if-e-me.false, eq-eqb _ _ c.if-f-me.false, eq-eqb _ _ c.if-g-mg.false, ne_eqb _ _ c.if-h-mg.true)

pub returns-then-x-n : goal.returns-then-x-n
returns-then-x-n c = rw (eq-eqb _ _ c.if-e-me.false, eq-eqb _ _ c.if-f-me.false, eq-eqb _ _ c.if-g-mg.false, eq-eqb _ _ c.if-h-mg.false, ne_eqb _ _ c.if-x-n.true)

pub returns : goal.returns
returns c = rw (eq-eqb _ _ c.if-e-me.false, eq-eqb _ _ c.if-f-me.false, eq-eqb _ _ c.if-g-mg.false, eq-eqb _ _ c.if-h-mg.false, eq-eqb _ _ c.if-x-n.false)
