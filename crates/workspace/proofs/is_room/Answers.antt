use borrow.Author.Tests.{le-leb, lt-leb}
use Rattle.workspace.proofs.is_room.Goals as goal

pub returns-then-w-ge8192 : goal.returns-then-w-ge8192
returns-then-w-ge8192 c = rw (le-leb _ _ c.if-w-ge8192.true)

pub returns-else-w-ge8192 : goal.returns-else-w-ge8192
returns-else-w-ge8192 c = rw (lt-leb _ _ c.if-w-ge8192.false)
