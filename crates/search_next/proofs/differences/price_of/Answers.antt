use mathlib.Core.Path.{refl}
use borrow.Author.Tests.{eq-eqb, ne_eqb}
use Rattle.search_next.proofs.differences.price_of.Goals as goal

pub returns-then-rows-m : goal.returns-then-rows-m
returns-then-rows-m c = rw (eq-eqb _ _ c.if-rows-m.true) refl

pub returns : goal.returns
returns c = rw (ne_eqb _ _ c.if-rows-m.false) refl
