-- `apply_q`: the first i reflectors are still to be applied.
use mathlib.Core.Path.{refl, ◌∙◌}
use native.Mathlib.Omega.{arith}
use Rattle.householder.proofs.Solving.{applying-none, applying-more, applying-done}
use Rattle.householder.proofs.apply_q.Goals as goal

pub loop-i-init : goal.loop-i-init
loop-i-init c = (refl, applying-none _ _ _ _)

pub reflect-requires : goal.reflect-requires
reflect-requires c = omega arith

pub loop-i-preserved : goal.loop-i-preserved
loop-i-preserved c = let a = c.args in
    let l = c.loop-i in
    let r = c.reflect in
    (r.auto.w ∙ l.invariant.0, applying-more a.m a.k l.i a.o a.w.now l.w _ (omega arith) (omega arith) (omega arith) (omega arith) (omega arith) r.ensures l.invariant.1)

pub shape_of-w : goal.shape_of-w
shape_of-w c = c.loop-i.invariant.0

pub returns : goal.returns
returns c = let l = c.loop-i in
    applying-done _ _ l.i _ _ _ (omega arith) l.invariant.1
