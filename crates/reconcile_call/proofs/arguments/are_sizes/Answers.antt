-- `are_sizes`, each way out by its tests.
use borrow.Author.Tests.{le-leb, lt-leb}
use Rattle.reconcile_call.proofs.arguments.are_sizes.Goals as goal

pub returns-then-n-le16 : goal.returns-then-n-le16
returns-then-n-le16 c = rw (le-leb _ _ c.if-n-le16.true)

pub returns-else-n-le16 : goal.returns-else-n-le16
returns-else-n-le16 c = rw (lt-leb _ _ c.if-n-le16.false)
