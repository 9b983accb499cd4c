-- `weight_of`: still, or not.
use borrow.Author.Tests.{eq-eqb, ne_eqb}
use Rattle.workspace.proofs.Readings.{lit-+0}
use Rattle.suspect.proofs.decide.weight_of.Goals as goal

pub returns-then-z-eq1 : goal.returns-then-z-eq1
returns-then-z-eq1 c = rw (eq-eqb _ _ c.if-z-eq1.true) lit-+0

pub returns : goal.returns
returns c = rw (ne_eqb _ _ c.if-z-eq1.false)
