-- `are_finite`: the numbers that are left decide.
use mathlib.Core.Bool.{not}
use mathlib.Core.Path.{refl, ap}
use Rattle.search_turn.proofs.Floats.{finite-more, finite-bad, finite-all}
use Rattle.search_turn.proofs.are_finite.Goals as goal

pub loop-x-init : goal.loop-x-init
loop-x-init c = refl

pub returns-then-not-is_finite : goal.returns-then-not-is_finite
returns-then-not-is_finite c = finite-bad _ _ _ c.loop-x-test.true c.is_finite.ensures (ap not c.if-not-is_finite.true) c.loop-x.invariant

pub loop-x-preserved : goal.loop-x-preserved
loop-x-preserved c = finite-more _ _ _ c.loop-x-test.true c.is_finite.ensures (ap not c.if-not-is_finite.false) c.loop-x.invariant

pub returns : goal.returns
returns c = finite-all _ _ c.loop-x-test.false c.loop-x.invariant
