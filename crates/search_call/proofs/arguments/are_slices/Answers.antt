-- `are_slices`: each way out rewrites with its tests.
use borrow.Author.Tests.{eq-eqb, ne_eqb}
use Rattle.search_call.proofs.arguments.are_slices.Goals as goal

pub returns-then-machine-ne-SEARCH_MACHINE : goal.returns-then-machine-ne-SEARCH_MACHINE
returns-then-machine-ne-SEARCH_MACHINE c = rw (ne_eqb _ _ c.if-machine-ne-SEARCH_MACHINE.true)

pub returns : goal.returns
returns c = rw (eq-eqb _ _ c.if-machine-ne-SEARCH_MACHINE.false)
