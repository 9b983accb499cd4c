use mathlib.Core.Path.{◌≡◌, sym, ◌∙◌}
use native.Mathlib.Omega.{arith}
use Rattle.certain.proofs.Laws.{all_none, all_more, all_done, all-broken, row_ends}
use Rattle.interval.proofs.Answers.{not-true, not-false}
use Rattle.certain.proofs.all_close.Goals as goal

pub loop-j-init : goal.loop-j-init
loop-j-init c = all_none _

pub closes-requires : goal.closes-requires
closes-requires c = let p = c.requires in (row_ends _ _ _ _ c.loop-j-test.true p.0, p.1)

pub returns-then-not-closes : goal.returns-then-not-closes
returns-then-not-closes c = all-broken _ c.loop-j.j _ c.loop-j-test.true (sym c.closes.ensures ∙ not-true _ c.if-not-closes.true-raw)

pub loop-j-preserved : goal.loop-j-preserved
loop-j-preserved c = all_more _ _ c.loop-j.invariant (sym c.closes.ensures ∙ not-false _ c.if-not-closes.false-raw)

pub returns : goal.returns
returns c = let e : c.loop-j.j ≡ c.args.m = omega arith in all_done _ _ _ e c.loop-j.invariant
