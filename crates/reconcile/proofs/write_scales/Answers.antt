-- `write_scales`: after i turns i rows are written.
use mathlib.Core.Path.{◌≡◌, refl, ◌∙◌}
use native.Mathlib.Omega.{arith}
use Rattle.workspace.proofs.Copies.{laid_none}
use Rattle.reconcile.proofs.Problems.{scale-is, unit-more, scales-are}
use Rattle.reconcile.proofs.write_scales.Goals as goal

pub loop-i-init : goal.loop-i-init
loop-i-init c = (omega arith, refl, laid_none _ _ _ _)

pub overflow_mul-i : goal.overflow_mul-i
overflow_mul-i c = omega arith

pub overflow_add-i : goal.overflow_add-i
overflow_add-i c = omega arith

pub offset_bounds-spreads-i : goal.offset_bounds-spreads-i
offset_bounds-spreads-i c = omega arith

pub bounds-spreads-i : goal.bounds-spreads-i
bounds-spreads-i c = omega arith

pub write_unit-requires : goal.write_unit-requires
write_unit-requires c = (omega arith, omega arith)

pub overflow_step-i : goal.overflow_step-i
overflow_step-i c = omega arith

pub loop-i-smaller : goal.loop-i-smaller
loop-i-smaller c = omega arith

pub loop-i-preserved : goal.loop-i-preserved
loop-i-preserved c = let l = c.loop-i in
    let k = c.write_unit in
    (omega arith, k.auto.w ∙ l.invariant.1, unit-more _ _ _ _ _ _ _ _ (omega arith) (scale-is _) k.ensures l.invariant.2)

pub shape_of-w : goal.shape_of-w
shape_of-w c = c.loop-i.invariant.1

pub returns : goal.returns
returns c = let l = c.loop-i in
    let e : l.i ≡ c.args.n = omega arith in
    scales-are _ _ _ _ c.requires.0 (rw e at l.invariant.2)
