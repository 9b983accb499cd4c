use borrow.Author.Tests.{le-leb, lt-leb}
use Rattle.workspace.proofs.is_matrix.Goals as goal

pub returns-then-m-le18 : goal.returns-then-m-le18
returns-then-m-le18 c = rw (le-leb _ _ c.if-m-le18.true)

pub returns-else-m-le18 : goal.returns-else-m-le18
returns-else-m-le18 c = rw (lt-leb _ _ c.if-m-le18.false)
