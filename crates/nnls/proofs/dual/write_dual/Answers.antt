-- `write_dual`: the fours, and then entry by entry: the first j stand.
use mathlib.Core.Path.{◌≡◌, refl, ◌∙◌}
use native.Mathlib.Omega.{arith}
use lib.ListN.{length-set}
use lib.Ieee.{nan}
use Rattle.workspace.proofs.Writes.{written-more}
use Rattle.nnls.specs.inner.Dual.{dual_at}
use Rattle.nnls.proofs.Fours.{dual-same}
use Rattle.nnls.proofs.dual.write_dual.Goals as goal

pub dual_fours-requires : goal.dual_fours-requires
dual_fours-requires c = omega arith

pub overflow_step-j : goal.overflow_step-j
overflow_step-j c = omega arith

pub loop-j-init : goal.loop-j-init
loop-j-init c = (omega arith, refl, λ v h. h)

pub overflow_mul-j : goal.overflow_mul-j
overflow_mul-j c = omega arith

pub dot_within-v-requires : goal.dot_within-v-requires
dot_within-v-requires c = omega (arith, c.loop-j.invariant.1, c.dual_fours.auto.w)

pub overflow_add-w : goal.overflow_add-w
overflow_add-w c = omega arith

pub offset_bounds-w-j : goal.offset_bounds-w-j
offset_bounds-w-j c = omega arith

pub bounds-w-j : goal.bounds-w-j
bounds-w-j c = omega (arith, c.loop-j.invariant.1, c.dual_fours.auto.w)

pub overflow_step-j-in-loop-j : goal.overflow_step-j-in-loop-j
overflow_step-j-in-loop-j c = omega arith

pub loop-j-smaller : goal.loop-j-smaller
loop-j-smaller c = omega arith

pub loop-j-preserved : goal.loop-j-preserved
unfolding dual_at
loop-j-preserved c = let a = c.args in
    let l = c.loop-j in
    let y = c.dual_fours.auto.w in (
      omega arith,
      simp length-set l.invariant.1,
      λ v h.
          let r = l.invariant.2 v h in
          written-more nan 1338 l.j (dual_at a.m v) v l.w _ (omega (arith, l.invariant.1, y))
          (c.dot_within-v.ensures ∙ dual-same a.m a.n v l.w (omega arith) (omega arith) l.j (omega arith) r l.j (omega arith)) r,
    )

pub shape_of-w : goal.shape_of-w
shape_of-w c = c.loop-j.invariant.1 ∙ c.dual_fours.auto.w

pub returns : goal.returns
returns c = let a = c.args in
    let l = c.loop-j in
    let e : l.j ≡ a.n = omega arith in
    rw (← e) (l.invariant.2 a.w.now c.dual_fours.ensures)
