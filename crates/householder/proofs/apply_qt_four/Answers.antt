-- `apply_qt_four`: after i turns i reflectors are applied to each vector.
use mathlib.Core.Path.{◌≡◌, refl, ◌∙◌}
use native.Mathlib.Omega.{arith}
use Rattle.householder.proofs.Solving.{applied-four-none, applied-four-more}
use Rattle.householder.proofs.apply_qt_four.Goals as goal

pub loop-i-init : goal.loop-i-init
loop-i-init c = (omega arith, refl, applied-four-none _ _ _)

pub reflect_four-requires : goal.reflect_four-requires
reflect_four-requires c = omega arith

pub overflow_step-i : goal.overflow_step-i
overflow_step-i c = omega arith

pub loop-i-smaller : goal.loop-i-smaller
loop-i-smaller c = omega arith

pub loop-i-preserved : goal.loop-i-preserved
loop-i-preserved c = let a = c.args in
    let l = c.loop-i in
    let r = c.reflect_four in
    (omega arith, r.auto.w ∙ l.invariant.1, applied-four-more a.m l.i a.o a.w.now l.w _ (omega arith) (omega arith) (omega arith) r.ensures l.invariant.2)

pub shape_of-w : goal.shape_of-w
shape_of-w c = c.loop-i.invariant.1

pub returns : goal.returns
returns c = let e : c.loop-i.i ≡ c.args.k = omega arith in rw (← e) c.loop-i.invariant.2
