-- `is_lsi`, each way out by its tests.
use borrow.Author.Tests.{le-leb, lt-leb}
use Rattle.lsei_call.proofs.arguments.is_lsi.Goals as goal

-- `is_lsi`, each way out by its tests.
-- `is_lsi`, each way out by its tests.
-- `is_lsi`, each way out by its tests.
pub returns-then-n-gt17 : goal.returns-then-n-gt17
returns-then-n-gt17 c = rw (lt-leb _ _ c.if-n-gt17.true)

pub returns-then-me-gt17 : goal.returns-then-me-gt17
returns-then-me-gt17 c = rw (le-leb _ _ c.if-n-gt17.false, lt-leb _ _ c.if-me-gt17.true)

pub returns : goal.returns
returns c = rw (le-leb _ _ c.if-n-gt17.false, le-leb _ _ c.if-me-gt17.false)
