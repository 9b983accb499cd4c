-- `write_residual`: the fours, and then entry by entry: the first i stand.
use mathlib.Core.Path.{◌≡◌, refl, ◌∙◌}
use native.Mathlib.Omega.{arith}
use lib.ListN.{length-set}
use lib.Ieee.{nan}
use Rattle.workspace.proofs.Writes.{written-more}
use Rattle.nnls.specs.inner.Dual.{residual_at}
use Rattle.nnls.proofs.Fours.{residual-same}
use Rattle.nnls.proofs.dual.write_residual.Goals as goal

pub residual_fours-requires : goal.residual_fours-requires
residual_fours-requires c = omega arith

pub overflow_step-i : goal.overflow_step-i
overflow_step-i c = omega arith

pub loop-i-init : goal.loop-i-init
loop-i-init c = (omega arith, refl, λ v h. h)

pub residual_at-v-requires : goal.residual_at-v-requires
residual_at-v-requires c = omega (arith, c.loop-i.invariant.1, c.residual_fours.auto.w)

pub overflow_add-w : goal.overflow_add-w
overflow_add-w c = omega arith

pub offset_bounds-w-i : goal.offset_bounds-w-i
offset_bounds-w-i c = omega arith

pub bounds-w-i : goal.bounds-w-i
bounds-w-i c = omega (arith, c.loop-i.invariant.1, c.residual_fours.auto.w)

pub overflow_step-i-in-loop-i : goal.overflow_step-i-in-loop-i
overflow_step-i-in-loop-i c = omega arith

pub loop-i-smaller : goal.loop-i-smaller
loop-i-smaller c = omega arith

pub loop-i-preserved : goal.loop-i-preserved
loop-i-preserved c = let a = c.args in
    let l = c.loop-i in
    let y = c.residual_fours.auto.w in (
      omega arith,
      simp length-set l.invariant.1,
      λ v h.
          let r = l.invariant.2 v h in
          written-more nan 1404 l.i (residual_at a.n v) v l.w _ (omega (arith, l.invariant.1, y))
          (c.residual_at-v.ensures ∙ residual-same a.m a.n v l.w (omega arith) (omega arith) l.i (omega arith) r l.i (omega arith)) r,
    )

pub shape_of-w : goal.shape_of-w
shape_of-w c = c.loop-i.invariant.1 ∙ c.residual_fours.auto.w

pub returns : goal.returns
returns c = let a = c.args in
    let l = c.loop-i in
    let e : l.i ≡ a.m = omega arith in
    rw (← e) (l.invariant.2 a.w.now c.residual_fours.ensures)
