-- `are_lengths`: each way out rewrites with its tests.
use borrow.Author.Tests.{eq-eqb, ne_eqb}
use Rattle.search_call.proofs.arguments.are_lengths.Goals as goal

pub returns-then-kinds-m : goal.returns-then-kinds-m
returns-then-kinds-m c = rw (ne_eqb _ _ c.if-kinds-m.true)

pub returns-then-lower-n : goal.returns-then-lower-n
returns-then-lower-n c = rw (eq-eqb _ _ c.if-kinds-m.false, ne_eqb _ _ c.if-lower-n.true)

pub returns-then-upper-n : goal.returns-then-upper-n
returns-then-upper-n c = rw (eq-eqb _ _ c.if-kinds-m.false, eq-eqb _ _ c.if-lower-n.false, ne_eqb _ _ c.if-upper-n.true)

pub returns : goal.returns
returns c = rw (eq-eqb _ _ c.if-kinds-m.false, eq-eqb _ _ c.if-lower-n.false, eq-eqb _ _ c.if-upper-n.false)
