use borrow.Author.Tests.{le-leb, lt-leb}
use Rattle.workspace.proofs.is_dimension.Goals as goal

pub returns-then-n-ge1 : goal.returns-then-n-ge1
returns-then-n-ge1 c = rw (le-leb _ _ c.if-n-ge1.true)

pub returns-else-n-ge1 : goal.returns-else-n-ge1
returns-else-n-ge1 c = rw (lt-leb _ _ c.if-n-ge1.false)
