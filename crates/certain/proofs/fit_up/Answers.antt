use Rattle.certain.specs.Bound.{fit_term, fit_up}
use Rattle.interval.proofs.Answers.{up_none, up_more, up_done}
use native.Mathlib.Omega.{arith}
use mathlib.Core.Path.{◌≡◌, ap, ◌∙◌}
use Rattle.certain.proofs.fit_up.Goals as goal

pub loop-i-init : goal.loop-i-init
loop-i-init c = up_none _

pub pull_within-g-requires : goal.pull_within-g-requires
pull_within-g-requires c = (c.loop-i-test.true, c.requires.1)

pub offset_bounds-x-i : goal.offset_bounds-x-i
offset_bounds-x-i c = omega arith

pub bounds-x-i : goal.bounds-x-i
bounds-x-i c = omega (arith, c.requires.0.x_long)

pub offset_bounds-values-i : goal.offset_bounds-values-i
offset_bounds-values-i c = omega arith

pub bounds-values-i : goal.bounds-values-i
bounds-values-i c = omega (arith, c.requires.0.values_long)

pub offset_bounds-spreads-i : goal.offset_bounds-spreads-i
offset_bounds-spreads-i c = omega arith

pub bounds-spreads-i : goal.bounds-spreads-i
bounds-spreads-i c = omega (arith, c.requires.0.spreads_long)

pub loop-i-preserved : goal.loop-i-preserved
loop-i-preserved c = up_more _ _ _ c.fit_term.result _ c.add_up-sum.ensures (c.fit_term.ensures ∙ ap (fit_term _ _ _) c.pull_within-g.ensures) c.loop-i.invariant

pub returns : goal.returns
unfolding fit_up
returns c = let e : c.loop-i.i ≡ c.args.n = omega arith in up_done _ _ _ _ e c.loop-i.invariant
