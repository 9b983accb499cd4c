-- `residuals`: the fours, and then entry by entry: the first i stand.
use mathlib.Core.Path.{◌≡◌, refl, ap, ◌∙◌}
use Prim.Native.Nat.{◌+◌}
use native.Mathlib.Omega.{arith}
use lib.ListN.{length-set}
use lib.Ieee.{Float, nan}
use Rattle.numbers.specs.Numbers.{at, ◌⊖◌}
use Rattle.workspace.proofs.Writes.{written-more}
use Rattle.lsei_nullspace.specs.inner.Work.{residual_in}
use Rattle.lsei_nullspace.proofs.FourSums.{residual-same}
use Rattle.lsei_nullspace.proofs.residuals.Goals as goal

pub residual_fours-requires : goal.residual_fours-requires
residual_fours-requires c = omega arith

pub overflow_step-i : goal.overflow_step-i
overflow_step-i c = omega arith

pub loop-i-init : goal.loop-i-init
loop-i-init c = (omega arith, refl, λ v h. h)

pub overflow_mul-i : goal.overflow_mul-i
overflow_mul-i c = omega arith

pub overflow_add-i : goal.overflow_add-i
overflow_add-i c = omega arith

pub dot_within-t-requires : goal.dot_within-t-requires
dot_within-t-requires c = omega (arith, c.loop-i.invariant.1, c.residual_fours.auto.w)

pub overflow_add-w : goal.overflow_add-w
overflow_add-w c = omega arith

pub offset_bounds-w-i : goal.offset_bounds-w-i
offset_bounds-w-i c = omega arith

pub bounds-w-i : goal.bounds-w-i
bounds-w-i c = omega (arith, c.loop-i.invariant.1, c.residual_fours.auto.w)

pub overflow_add-w-in-loop-i : goal.overflow_add-w-in-loop-i
overflow_add-w-in-loop-i c = omega arith

pub offset_bounds-w-i-in-loop-i : goal.offset_bounds-w-i-in-loop-i
offset_bounds-w-i-in-loop-i c = omega arith

pub bounds-w-i-in-loop-i : goal.bounds-w-i-in-loop-i
bounds-w-i-in-loop-i c = omega (arith, c.loop-i.invariant.1, c.residual_fours.auto.w)

pub overflow_step-i-in-loop-i : goal.overflow_step-i-in-loop-i
overflow_step-i-in-loop-i c = omega arith

pub loop-i-smaller : goal.loop-i-smaller
loop-i-smaller c = omega arith

pub loop-i-preserved : goal.loop-i-preserved
loop-i-preserved c = let a = c.args in
    let l = c.loop-i in
    let y = c.residual_fours.auto.w in (
      omega arith,
      simp length-set l.invariant.1,
      λ v h.
          let r = l.invariant.2 v h in
          written-more nan 360 l.i (λ t. residual_in a.n t v) v l.w _ (omega (arith, l.invariant.1, y))
          (ap (λ (t : Float). t ⊖ at l.w (1038 + l.i)) c.dot_within-t.ensures ∙ residual-same a.n a.me v l.w (omega arith) (omega arith) l.i (omega arith) r l.i (omega arith)) r,
    )

pub shape_of-w : goal.shape_of-w
shape_of-w c = c.loop-i.invariant.1 ∙ c.residual_fours.auto.w

pub returns : goal.returns
returns c = let a = c.args in
    let l = c.loop-i in
    let e : l.i ≡ a.me = omega arith in
    rw (← e) (l.invariant.2 a.w.now c.residual_fours.ensures)
