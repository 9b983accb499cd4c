use borrow.Author.Tests.{le-leb, lt-leb}
use Rattle.lsei_call.proofs.arguments.is_ldp.Goals as goal

pub returns-then-m-le66 : goal.returns-then-m-le66
returns-then-m-le66 c = rw (le-leb _ _ c.if-m-le66.true)

pub returns-else-m-le66 : goal.returns-else-m-le66
returns-else-m-le66 c = rw (lt-leb _ _ c.if-m-le66.false)
