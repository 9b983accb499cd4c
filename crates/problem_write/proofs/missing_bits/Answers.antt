-- `missing_bits`: by the tag.
use borrow.Author.Tests.{eq-eqb, ne_eqb}
use Rattle.problem_write.specs.File.{missing}
use Rattle.problem_write.proofs.missing_bits.Goals as goal

pub returns-then-row-column : goal.returns-then-row-column
unfolding missing
returns-then-row-column c = simp (eq-eqb _ _ c.if-tag-eq76.true, eq-eqb _ _ c.if-row-column.true)

pub returns-then-tag-eq76 : goal.returns-then-tag-eq76
unfolding missing
returns-then-tag-eq76 c = simp (eq-eqb _ _ c.if-tag-eq76.true, ne_eqb _ _ c.if-row-column.false)

pub returns-then-tag-eq66 : goal.returns-then-tag-eq66
unfolding missing
returns-then-tag-eq66 c = simp (ne_eqb _ _ c.if-tag-eq76.false, eq-eqb _ _ c.if-tag-eq66.true)

pub returns-then-tag-eq84 : goal.returns-then-tag-eq84
unfolding missing
returns-then-tag-eq84 c = simp (ne_eqb _ _ c.if-tag-eq76.false, ne_eqb _ _ c.if-tag-eq66.false, eq-eqb _ _ c.if-tag-eq84.true)

pub returns : goal.returns
unfolding missing
returns c = simp (ne_eqb _ _ c.if-tag-eq76.false, ne_eqb _ _ c.if-tag-eq66.false, ne_eqb _ _ c.if-tag-eq84.false)
