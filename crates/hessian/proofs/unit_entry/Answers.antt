-- `unit_entry`: on the diagonal, and off it.
use lib.Ieee.{round, of_bits}
use borrow.Author.Tests.{eq-eqb, ne_eqb}
use Rattle.hessian.proofs.unit_entry.Goals as goal

pub returns-then-i-j : goal.returns-then-i-j
unfolding round of_bits
returns-then-i-j c = rw (eq-eqb _ _ c.if-i-j.true)

pub returns-else-i-j : goal.returns-else-i-j
unfolding round of_bits
returns-else-i-j c = rw (ne_eqb _ _ c.if-i-j.false)
