-- `new_spread`: still, determined, or neither.
use borrow.Author.Tests.{eq-eqb, ne_eqb}
use Rattle.workspace.proofs.Readings.{lit-+0}
use Rattle.suspect.specs.Suspect.{new_spread}
use Rattle.suspect.proofs.decide.new_spread.Goals as goal

pub returns-then-z-eq1 : goal.returns-then-z-eq1
unfolding new_spread
returns-then-z-eq1 c = rw (eq-eqb _ _ c.if-z-eq1.true) lit-+0

pub returns-then-t : goal.returns-then-t
unfolding new_spread
returns-then-t c = rw (ne_eqb _ _ c.if-z-eq1.false, rw lit-+0 at c.if-t.true) lit-+0

pub returns : goal.returns
unfolding new_spread
returns c = rw (ne_eqb _ _ c.if-z-eq1.false, rw lit-+0 at c.if-t.false, c.sqrt-x.ensures)
