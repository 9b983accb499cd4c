-- `is_at_capacity`: a line, and what is at its capacity.
use borrow.Author.Tests.{eq-eqb, ne_eqb}
use Rattle.suspect.proofs.Decisions.{lit-tiny}
use Rattle.day_text.proofs.items.is_at_capacity.Goals as goal

pub returns-then-kind-eq1 : goal.returns-then-kind-eq1
returns-then-kind-eq1 c = rw (eq-eqb _ _ c.if-kind-eq1.true, lit-tiny)

pub returns : goal.returns
returns c = rw (ne_eqb _ _ c.if-kind-eq1.false)
