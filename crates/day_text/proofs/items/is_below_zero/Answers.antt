-- `is_below_zero`: a floor, and what is below it.
use borrow.Author.Tests.{lt-ltb, le-ltb}
use Rattle.workspace.proofs.Readings.{lit-+0}
use Rattle.day_text.proofs.items.is_below_zero.Goals as goal

pub returns-then-kind-lt2 : goal.returns-then-kind-lt2
returns-then-kind-lt2 c = rw (lt-ltb _ _ c.if-kind-lt2.true, lit-+0)

pub returns : goal.returns
returns c = rw (le-ltb _ _ c.if-kind-lt2.false)
