-- `row_length`: by the tag.
use borrow.Author.Tests.{eq-eqb, ne_eqb}
use Rattle.problem_write.specs.File.{row_length}
use Rattle.problem_write.proofs.row_length.Goals as goal

pub returns-then-tag-eq76 : goal.returns-then-tag-eq76
unfolding row_length
returns-then-tag-eq76 c = simp (eq-eqb _ _ c.if-tag-eq76.true)

pub returns-else-tag-eq76 : goal.returns-else-tag-eq76
unfolding row_length
returns-else-tag-eq76 c = simp (ne_eqb _ _ c.if-tag-eq76.false)
