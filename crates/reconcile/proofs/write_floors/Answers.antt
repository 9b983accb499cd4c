-- `write_floors`: after i turns i rows are written, each with its side.
use mathlib.Core.Path.{◌≡◌, refl, ◌∙◌}
use native.Mathlib.Omega.{arith}
use Rattle.workspace.proofs.Copies.{laid_none}
use Rattle.workspace.proofs.Readings.{lit-one}
use Rattle.reconcile.proofs.Problems.{unit-more, floors-are}
use Rattle.reconcile.proofs.write_floors.Goals as goal

pub loop-i-init : goal.loop-i-init
loop-i-init c = (omega arith, refl, laid_none _ _ _ _)

pub overflow_mul-i : goal.overflow_mul-i
overflow_mul-i c = omega arith

pub overflow_add-i : goal.overflow_add-i
overflow_add-i c = omega arith

pub overflow_add-n : goal.overflow_add-n
overflow_add-n c = omega arith

pub write_unit-requires : goal.write_unit-requires
write_unit-requires c = (omega arith, omega arith)

pub overflow_step-i : goal.overflow_step-i
overflow_step-i c = omega arith

pub loop-i-smaller : goal.loop-i-smaller
loop-i-smaller c = omega arith

pub loop-i-preserved : goal.loop-i-preserved
loop-i-preserved c = let l = c.loop-i in
    let k = c.write_unit in
    (omega arith, k.auto.w ∙ l.invariant.1, unit-more _ _ _ _ _ _ _ _ (omega arith) lit-one k.ensures l.invariant.2)

pub shape_of-w : goal.shape_of-w
shape_of-w c = c.loop-i.invariant.1

pub returns : goal.returns
returns c = let l = c.loop-i in
    let e : l.i ≡ c.args.n = omega arith in
    floors-are _ _ _ (rw e at l.invariant.2)
