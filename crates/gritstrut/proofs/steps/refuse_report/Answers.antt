-- `refuse_report`, each way out by the sizes.
use mathlib.Core.Path.{sym, ◌∙◌}
use Rattle.gritstrut.proofs.steps.refuse_report.Goals as goal

pub returns-then-are_sizes : goal.returns-then-are_sizes
returns-then-are_sizes c = rw (sym c.are_sizes.ensures ∙ c.if-are_sizes.true) c.number.ensures

pub returns : goal.returns
returns c = rw (sym c.are_sizes.ensures ∙ c.if-are_sizes.false) c.number-2.ensures
