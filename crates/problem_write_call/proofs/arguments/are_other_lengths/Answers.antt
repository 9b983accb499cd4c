-- `are_other_lengths`, each way out by its tests.
use borrow.Author.Tests.{eq-eqb, ne_eqb}
use Rattle.problem_write_call.proofs.arguments.are_other_lengths.Goals as goal

pub returns-then-widths-m : goal.returns-then-widths-m
returns-then-widths-m c = rw (ne_eqb _ _ c.if-widths-m.true)

pub returns-then-lower-n : goal.returns-then-lower-n
returns-then-lower-n c = rw (eq-eqb _ _ c.if-widths-m.false, ne_eqb _ _ c.if-lower-n.true)

pub returns : goal.returns
returns c = rw (eq-eqb _ _ c.if-widths-m.false, eq-eqb _ _ c.if-lower-n.false)
