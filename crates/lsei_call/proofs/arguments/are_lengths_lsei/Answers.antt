-- `are_lengths_lsei`, each way out by its tests.
use mathlib.Core.Path.{sym, ◌∙◌}
use native.Mathlib.Nat.{mul-le-mul}
use native.Mathlib.Omega.{arith}
use borrow.Author.Tests.{eq-eqb, ne_eqb}
use Rattle.lsei_call.proofs.arguments.are_lengths_lsei.Goals as goal

pub are_lengths_ce-requires : goal.are_lengths_ce-requires
are_lengths_ce-requires c = (c.requires.0, c.requires.1, c.requires.2)

pub returns-then-not-are_lengths_ce : goal.returns-then-not-are_lengths_ce
returns-then-not-are_lengths_ce c = rw (sym c.are_lengths_ce.ensures ∙ c.if-not-are_lengths_ce.true)

pub overflow_mul-mg : goal.overflow_mul-mg
overflow_mul-mg c = let p = c.requires in omega (arith, mul-le-mul p.3 p.0)

pub returns-then-g-mg : goal.returns-then-g-mg
returns-then-g-mg c = rw (sym c.are_lengths_ce.ensures ∙ c.if-not-are_lengths_ce.false, ne_eqb _ _ c.if-g-mg.true)

pub returns-then-h-mg : goal.returns-then-h-mg
returns-then-h-mg c = rw (sym c.are_lengths_ce.ensures ∙ c.if-not-are_lengths_ce.false, eq-eqb _ _ c.if-g-mg.false, ne_eqb _ _ c.if-h-mg.true)

pub returns-then-x-n : goal.returns-then-x-n
returns-then-x-n c = rw (sym c.are_lengths_ce.ensures ∙ c.if-not-are_lengths_ce.false, eq-eqb _ _ c.if-g-mg.false, eq-eqb _ _ c.if-h-mg.false, ne_eqb _ _ c.if-x-n.true)

pub overflow_add-result : goal.overflow_add-result
overflow_add-result c = let p = c.requires in omega (arith, p)

pub returns : goal.returns
returns c = rw (sym c.are_lengths_ce.ensures ∙ c.if-not-are_lengths_ce.false, eq-eqb _ _ c.if-g-mg.false, eq-eqb _ _ c.if-h-mg.false, eq-eqb _ _ c.if-x-n.false)
