use Rattle.interval.specs.Intervals.{minus}
use Rattle.certain.proofs.Laws.{slack-is, slack-none}
use mathlib.Core.Path.{ap, ◌∙◌}
use Rattle.certain.proofs.slack_term.Goals as goal

pub returns-then-z : goal.returns-then-z
returns-then-z c = slack-is _ _ _ c.sub-over.result c.larger.result _ c.if-z.true (c.sub-over.ensures ∙ ap (minus _) c.of.ensures) c.larger.ensures c.mul_up.ensures

pub returns : goal.returns
returns c = slack-none _ _ _ c.if-z.false
