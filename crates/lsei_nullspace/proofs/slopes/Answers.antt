-- `slopes`: the fours, and then entry by entry: the first j stand.
use mathlib.Core.Path.{◌≡◌, refl, ◌∙◌}
use native.Mathlib.Omega.{arith}
use lib.ListN.{length-set}
use lib.Ieee.{nan}
use Rattle.workspace.proofs.Writes.{written-more}
use Rattle.lsei_nullspace.specs.inner.Work.{slope_in}
use Rattle.lsei_nullspace.proofs.FourSums.{slope-same}
use Rattle.lsei_nullspace.proofs.slopes.Goals as goal

pub slope_fours-requires : goal.slope_fours-requires
slope_fours-requires c = omega arith

pub overflow_step-j : goal.overflow_step-j
overflow_step-j c = omega arith

pub loop-j-init : goal.loop-j-init
loop-j-init c = (omega arith, refl, λ v h. h)

pub slope_at-v-requires : goal.slope_at-v-requires
slope_at-v-requires c = omega (arith, c.loop-j.invariant.1, c.slope_fours.auto.w)

pub overflow_add-w : goal.overflow_add-w
overflow_add-w c = omega arith

pub offset_bounds-w-j : goal.offset_bounds-w-j
offset_bounds-w-j c = omega arith

pub bounds-w-j : goal.bounds-w-j
bounds-w-j c = omega (arith, c.loop-j.invariant.1, c.slope_fours.auto.w)

pub overflow_step-j-in-loop-j : goal.overflow_step-j-in-loop-j
overflow_step-j-in-loop-j c = omega arith

pub loop-j-smaller : goal.loop-j-smaller
loop-j-smaller c = omega arith

pub loop-j-preserved : goal.loop-j-preserved
loop-j-preserved c = let a = c.args in
    let l = c.loop-j in
    let y = c.slope_fours.auto.w in (
      omega arith,
      simp length-set l.invariant.1,
      λ v h.
          let r = l.invariant.2 v h in
          written-more nan 342 l.j (λ j. slope_in a.me a.mg j (v)) v l.w _ (omega (arith, l.invariant.1, y))
          (c.slope_at-v.ensures ∙ slope-same a.n a.me a.mg v l.w (omega arith) (omega arith) (omega arith) l.j (omega arith) r l.j (omega arith)) r,
    )

pub shape_of-w : goal.shape_of-w
shape_of-w c = c.loop-j.invariant.1 ∙ c.slope_fours.auto.w

pub returns : goal.returns
returns c = let a = c.args in
    let l = c.loop-j in
    let e : l.j ≡ a.n = omega arith in
    rw (← e) (l.invariant.2 a.w.now c.slope_fours.ensures)
