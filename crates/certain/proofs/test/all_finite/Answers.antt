use Rattle.certain.specs.Bound.{are_finite}
use Rattle.certain.proofs.Laws.{all_none, all_more, all_done, all-broken}
use Rattle.interval.proofs.Answers.{not-true, not-false}
use native.Mathlib.Omega.{arith}
use mathlib.Core.Path.{◌≡◌, sym, ◌∙◌}
use Rattle.certain.proofs.test.all_finite.Goals as goal

pub loop-i-init : goal.loop-i-init
loop-i-init c = all_none _

pub offset_bounds-v-i : goal.offset_bounds-v-i
offset_bounds-v-i c = omega arith

pub bounds-v-i : goal.bounds-v-i
bounds-v-i c = omega arith

pub returns-then-not-is_finite : goal.returns-then-not-is_finite
unfolding are_finite
returns-then-not-is_finite c = all-broken _ c.loop-i.i _ c.loop-i-test.true (sym c.is_finite.ensures ∙ not-true _ c.if-not-is_finite.true-raw)

pub loop-i-preserved : goal.loop-i-preserved
loop-i-preserved c = all_more _ _ c.loop-i.invariant (sym c.is_finite.ensures ∙ not-false _ c.if-not-is_finite.false-raw)

pub returns : goal.returns
unfolding are_finite
returns c = let e : c.loop-i.i ≡ c.args.n = omega arith in all_done _ _ _ e c.loop-i.invariant
