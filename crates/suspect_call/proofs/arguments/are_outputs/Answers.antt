-- `tests/are_outputs`: each way out by its tests.
use native.Mathlib.Omega.{arith}
use borrow.Author.Tests.{eq-eqb, ne_eqb}
use Rattle.suspect_call.proofs.arguments.are_outputs.Goals as goal

pub overflow_mul-n : goal.overflow_mul-n
overflow_mul-n c = omega arith

pub returns-then-numbers-n : goal.returns-then-numbers-n
returns-then-numbers-n c = rw (ne_eqb _ _ c.if-numbers-n.true)

pub returns-then-groups-n : goal.returns-then-groups-n
returns-then-groups-n c = rw (eq-eqb _ _ c.if-numbers-n.false, ne_eqb _ _ c.if-groups-n.true)

pub returns : goal.returns
returns c = rw (eq-eqb _ _ c.if-numbers-n.false, eq-eqb _ _ c.if-groups-n.false)
