-- `mark`: 2 for `I`, else 1.
use borrow.Author.Tests.{ne_eqb}
use Rattle.problem_read.specs.inner.Spots.{tag_mark}
use Rattle.problem_read.proofs.mark.Goals as goal

pub returns-then-tag-eq73 : goal.returns-then-tag-eq73
unfolding tag_mark
returns-then-tag-eq73 c = rw c.if-tag-eq73.true

pub returns-else-tag-eq73 : goal.returns-else-tag-eq73
unfolding tag_mark
returns-else-tag-eq73 c = simp (ne_eqb _ _ c.if-tag-eq73.false)
