use Rattle.certain.specs.Bound.{slack_term, slack_up}
use Rattle.certain.proofs.Laws.{row_in, row-starts}
use Rattle.interval.proofs.Answers.{up_none, up_more, up_done}
use native.Mathlib.Omega.{arith}
use mathlib.Core.Path.{◌≡◌, ap, ◌∙◌}
use Rattle.certain.proofs.slack_up.Goals as goal

pub loop-k-init : goal.loop-k-init
loop-k-init c = up_none _

pub row_within-a-requires : goal.row_within-a-requires
row_within-a-requires c = (λ i l. row_in i _ _ _ _ l c.loop-k-test.true c.requires.0, c.requires.2, row-starts _ _ _ _ c.loop-k-test.true c.requires.0)

pub offset_bounds-z-k : goal.offset_bounds-z-k
offset_bounds-z-k c = omega arith

pub bounds-z-k : goal.bounds-z-k
bounds-z-k c = omega (arith, c.requires.3)

pub offset_bounds-least-k : goal.offset_bounds-least-k
offset_bounds-least-k c = omega arith

pub bounds-least-k : goal.bounds-least-k
bounds-least-k c = omega (arith, c.requires.1)

pub loop-k-preserved : goal.loop-k-preserved
loop-k-preserved c = up_more _ _ _ c.slack_term.result _ c.add_up-sum.ensures (c.slack_term.ensures ∙ ap (slack_term _ _) c.row_within-a.ensures) c.loop-k.invariant

pub returns : goal.returns
unfolding slack_up
returns c = let e : c.loop-k.k ≡ c.args.p = omega arith in up_done _ _ _ _ e c.loop-k.invariant
