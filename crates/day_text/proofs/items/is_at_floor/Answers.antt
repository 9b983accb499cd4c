-- `is_at_floor`: a floor, and what is on it.
use borrow.Author.Tests.{lt-ltb, le-ltb}
use Rattle.suspect.proofs.Decisions.{lit-tiny}
use Rattle.workspace.proofs.Readings.{lit-+0}
use Rattle.day_text.proofs.items.is_at_floor.Goals as goal

pub returns-then-kind-ge2 : goal.returns-then-kind-ge2
returns-then-kind-ge2 c = rw (le-ltb _ _ c.if-kind-ge2.true)

pub returns-then-corrected : goal.returns-then-corrected
returns-then-corrected c = rw (lt-ltb _ _ c.if-kind-ge2.false, rw lit-+0 at c.if-corrected.true, lit-tiny)

pub returns : goal.returns
returns c = rw (lt-ltb _ _ c.if-kind-ge2.false, rw lit-+0 at c.if-corrected.false)
