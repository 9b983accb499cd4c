use mathlib.Core.Path.{◌≡◌, sym, ◌∙◌}
use native.Mathlib.Omega.{arith}
use Rattle.certain.proofs.Laws.{all_none, all_more, all_done, all-broken, row_ends}
use Rattle.interval.proofs.Answers.{not-true, not-false}
use Rattle.certain.proofs.all_keep.Goals as goal

pub loop-k-init : goal.loop-k-init
loop-k-init c = all_none _

pub keeps-requires : goal.keeps-requires
keeps-requires c = let q = c.requires in (row_ends _ _ _ _ c.loop-k-test.true q.0, omega (arith, q.1), q.2)

pub returns-then-not-keeps : goal.returns-then-not-keeps
returns-then-not-keeps c = all-broken _ c.loop-k.k _ c.loop-k-test.true (sym c.keeps.ensures ∙ not-true _ c.if-not-keeps.true-raw)

pub loop-k-preserved : goal.loop-k-preserved
loop-k-preserved c = all_more _ _ c.loop-k.invariant (sym c.keeps.ensures ∙ not-false _ c.if-not-keeps.false-raw)

pub returns : goal.returns
returns c = let e : c.loop-k.k ≡ c.args.p = omega arith in all_done _ _ _ e c.loop-k.invariant
