-- `turn_e`: the fours, and then row by row.
use mathlib.Core.Path.{◌≡◌, refl, ◌∙◌}
use native.Mathlib.Omega.{arith}
use Rattle.lsei_nullspace.proofs.Turning.{e-at, e-all}
use Rattle.lsei_nullspace.proofs.turn_e.Goals as goal

pub turn_e_fours-requires : goal.turn_e_fours-requires
turn_e_fours-requires c = c.requires

pub overflow_step-i : goal.overflow_step-i
overflow_step-i c = omega arith

pub loop-i-init : goal.loop-i-init
loop-i-init c = (omega arith, refl, λ v h. h)

pub turn_e_row-requires : goal.turn_e_row-requires
turn_e_row-requires c = omega (arith, c.loop-i.invariant.1, c.turn_e_fours.auto.w, c.requires)

pub overflow_step-i-in-loop-i : goal.overflow_step-i-in-loop-i
overflow_step-i-in-loop-i c = omega arith

pub loop-i-smaller : goal.loop-i-smaller
loop-i-smaller c = omega arith

pub loop-i-preserved : goal.loop-i-preserved
loop-i-preserved c = let l = c.loop-i in
    let k = c.turn_e_row in
    (omega arith, k.auto.w ∙ l.invariant.1, λ v h. k.ensures v (l.invariant.2 v h))

pub shape_of-w : goal.shape_of-w
shape_of-w c = c.loop-i.invariant.1 ∙ c.turn_e_fours.auto.w

pub returns : goal.returns
returns c = let a = c.args in
    let l = c.loop-i in
    let z : l.i ≡ a.me = omega arith in
    e-all a.n a.mc a.me a.w.now l.w c.requires.1 (e-at a.n a.mc _ _ a.w.now l.w z (l.invariant.2 a.w.now c.turn_e_fours.ensures))
