-- `turn_g_four`: four rows under Q', and after r turns r of them are laid.
use mathlib.Core.Path.{refl, ◌∙◌}
use native.Mathlib.Omega.{arith}
use Rattle.lsei_nullspace.proofs.Turning.{laying-g-none, laying-g-more, laying-g-done}
use Rattle.lsei_nullspace.proofs.turn_g_four.Goals as goal

pub overflow_mul-i : goal.overflow_mul-i
overflow_mul-i c = omega arith

pub overflow_add-i : goal.overflow_add-i
overflow_add-i c = omega arith

pub turn_rows-requires : goal.turn_rows-requires
turn_rows-requires c = omega arith

pub loop-r-init : goal.loop-r-init
loop-r-init c = (omega arith, refl, λ v h. h)

pub overflow_add-i-in-loop-r : goal.overflow_add-i-in-loop-r
overflow_add-i-in-loop-r c = omega arith

pub overflow_mul-r : goal.overflow_mul-r
overflow_mul-r c = omega arith

pub overflow_add-r : goal.overflow_add-r
overflow_add-r c = omega arith

pub lay_g-requires : goal.lay_g-requires
lay_g-requires c = omega (arith, c.loop-r.invariant.1, c.turn_rows.auto.w, c.requires)

pub overflow_step-r : goal.overflow_step-r
overflow_step-r c = omega arith

pub loop-r-smaller : goal.loop-r-smaller
loop-r-smaller c = omega arith

pub loop-r-preserved : goal.loop-r-preserved
loop-r-preserved c = let a = c.args in
    let l = c.loop-r in
    let k = c.lay_g in
    (omega arith, k.auto.w ∙ l.invariant.1, λ v h. laying-g-more a.n a.mc a.i l.r v l.w k.new.w c.requires.0 c.requires.1 c.requires.2 (omega arith) k.ensures (l.invariant.2 v h))

pub shape_of-w : goal.shape_of-w
shape_of-w c = c.loop-r.invariant.1 ∙ c.turn_rows.auto.w

pub returns : goal.returns
returns c = let a = c.args in
    let l = c.loop-r in
    let T = c.turn_rows in
    λ v h. laying-g-done a.n a.mc a.i l.r v l.w (omega arith) (l.invariant.2 v (laying-g-none a.n a.mc a.i v a.w.now T.new.w c.requires.0 c.requires.1 c.requires.2 T.ensures h))
