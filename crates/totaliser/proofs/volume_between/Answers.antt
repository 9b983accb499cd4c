use borrow.Author.Tests.{lt-ltb, le-ltb}
use Rattle.totaliser.specs.Volume.{volume}
use Rattle.totaliser.proofs.volume_between.Goals as goal

pub returns-then-new-old : goal.returns-then-new-old
unfolding volume
returns-then-new-old c = rw (lt-ltb _ _ c.if-new-old.true)

pub returns : goal.returns
unfolding volume
returns c = rw (le-ltb _ _ c.if-new-old.false)
