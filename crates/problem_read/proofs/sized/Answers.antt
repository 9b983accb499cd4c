-- `sized`: the tests in their order.
use mathlib.Core.Path.{sym, ◌∙◌}
use Rattle.problem_read.proofs.Heads.{sizes-not, sizes-many, sizes-good}
use Rattle.problem_read.proofs.sized.Goals as goal

pub is_dimension-requires : goal.is_dimension-requires
is_dimension-requires c = tt

pub returns-then-not-is_dimension : goal.returns-then-not-is_dimension
returns-then-not-is_dimension c = sizes-not _ _ (sym c.is_dimension.ensures ∙ c.if-not-is_dimension.true)

pub is_constraints-requires : goal.is_constraints-requires
is_constraints-requires c = tt

pub returns-then-not-is_constraints : goal.returns-then-not-is_constraints
returns-then-not-is_constraints c = sizes-many _ _ (sym c.is_dimension.ensures ∙ c.if-not-is_dimension.false) (sym c.is_constraints.ensures ∙ c.if-not-is_constraints.true)

pub returns : goal.returns
returns c = sizes-good _ _ (sym c.is_dimension.ensures ∙ c.if-not-is_dimension.false) (sym c.is_constraints.ensures ∙ c.if-not-is_constraints.false)
