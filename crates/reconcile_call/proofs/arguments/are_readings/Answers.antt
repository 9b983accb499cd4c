-- `are_readings`, each way out by its tests.
use borrow.Author.Tests.{le-leb, lt-leb}
use Rattle.reconcile_call.proofs.arguments.are_readings.Goals as goal

pub returns-then-old-le-LARGEST : goal.returns-then-old-le-LARGEST
returns-then-old-le-LARGEST c = rw (le-leb _ _ c.if-old-le-LARGEST.true)

pub returns-else-old-le-LARGEST : goal.returns-else-old-le-LARGEST
returns-else-old-le-LARGEST c = rw (lt-leb _ _ c.if-old-le-LARGEST.false)
