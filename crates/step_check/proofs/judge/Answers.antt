-- `judge`: the row holds, or it is named.
use mathlib.Core.Path.{sym, ◌∙◌}
use Rattle.step_check.proofs.First.{row-holds, row-fails}
use Rattle.step_check.proofs.judge.Goals as goal

pub returns-then-passes : goal.returns-then-passes
returns-then-passes c = row-holds _ _ _ _ _ _ (sym c.passes.ensures ∙ c.if-passes.true)

pub returns : goal.returns
returns c = row-fails _ _ _ _ _ _ (sym c.passes.ensures ∙ c.if-passes.false)
