-- `turn`: the fours, and then column by column: the columns before j are under the reflector.
use mathlib.Core.Path.{refl, ◌∙◌}
use native.Mathlib.Omega.{arith}
use Rattle.householder.proofs.Reflections.{turned_more, turned-at}
use Rattle.householder.proofs.turn.Goals as goal

pub turn_fours-requires : goal.turn_fours-requires
turn_fours-requires c = omega arith

pub overflow_add-j : goal.overflow_add-j
overflow_add-j c = omega arith

pub overflow_add-j-2 : goal.overflow_add-j-2
overflow_add-j-2 c = omega arith

pub overflow_sub-j : goal.overflow_sub-j
overflow_sub-j c = omega arith

pub overflow_mul-j : goal.overflow_mul-j
overflow_mul-j c = omega arith

pub overflow_step-j : goal.overflow_step-j
overflow_step-j c = omega arith

pub loop-j-init : goal.loop-j-init
loop-j-init c = (omega arith, omega arith, refl, λ v h. h)

pub overflow_mul-j-in-loop-j : goal.overflow_mul-j-in-loop-j
overflow_mul-j-in-loop-j c = omega arith

pub overflow_add-j-in-loop-j : goal.overflow_add-j-in-loop-j
overflow_add-j-in-loop-j c = omega arith

pub reflect-requires : goal.reflect-requires
reflect-requires c = omega (arith, c.loop-j.invariant.2, c.turn_fours.auto.w)

pub overflow_step-j-in-loop-j : goal.overflow_step-j-in-loop-j
overflow_step-j-in-loop-j c = omega arith

pub loop-j-smaller : goal.loop-j-smaller
loop-j-smaller c = omega arith

pub loop-j-preserved : goal.loop-j-preserved
loop-j-preserved c = let a = c.args in
    let l = c.loop-j in
    let r = c.reflect in
    (omega arith, omega arith, r.auto.w ∙ l.invariant.2, λ v h. turned_more a.m a.k l.j v l.w _ (omega arith) (omega arith) (omega arith) r.ensures (l.invariant.3 v h))

pub shape_of-w : goal.shape_of-w
shape_of-w c = c.loop-j.invariant.2 ∙ c.turn_fours.auto.w

pub returns : goal.returns
returns c = let a = c.args in
    let l = c.loop-j in
    turned-at a.m a.k _ _ a.w.now _ (omega arith) (l.invariant.3 a.w.now c.turn_fours.ensures)
