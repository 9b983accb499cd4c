-- `are_sizes`, each way out by its tests.
use borrow.Author.Tests.{le-leb, lt-leb}
use Rattle.settle_call.proofs.arguments.are_sizes.Goals as goal

pub returns-then-n-gt16 : goal.returns-then-n-gt16
returns-then-n-gt16 c = rw (lt-leb _ _ c.if-n-gt16.true)

pub returns-then-m-gt16 : goal.returns-then-m-gt16
returns-then-m-gt16 c = rw (le-leb _ _ c.if-n-gt16.false, lt-leb _ _ c.if-m-gt16.true)

pub returns : goal.returns
returns c = rw (le-leb _ _ c.if-n-gt16.false, le-leb _ _ c.if-m-gt16.false)
