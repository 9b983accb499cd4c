-- `are_answers`, each way out by its tests.
use native.Mathlib.Omega.{arith}
use borrow.Author.Tests.{eq-eqb, ne_eqb}
use Rattle.settle_call.proofs.arguments.are_answers.Goals as goal

pub returns-then-volumes-n : goal.returns-then-volumes-n
returns-then-volumes-n c = rw (ne_eqb _ _ c.if-volumes-n.true)

pub overflow_add-result : goal.overflow_add-result
overflow_add-result c = omega arith

pub returns : goal.returns
returns c = rw (eq-eqb _ _ c.if-volumes-n.false)
