-- `write_columns`: after j turns j columns are written.
use mathlib.Core.Path.{◌≡◌, refl, ◌∙◌}
use native.Mathlib.Omega.{arith}
use Rattle.workspace.proofs.Copies.{laid_none, laid_more}
use Rattle.step.proofs.Matrices.{triangle-is}
use Rattle.step.proofs.assembly.write_columns.Goals as goal

pub loop-j-init : goal.loop-j-init
loop-j-init c = (omega arith, refl, laid_none _ _ _ _)

pub loop-j-preserved : goal.loop-j-preserved
loop-j-preserved c = let l = c.loop-j in
    let k = c.write_column in
    (omega arith, k.auto.w ∙ l.invariant.1, laid_more _ _ _ _ _ _ _ (omega arith) k.ensures l.invariant.2)

pub returns : goal.returns
returns c = let l = c.loop-j in
    let e : l.j ≡ c.args.n = omega arith in
    triangle-is _ _ _ _ (rw e at l.invariant.2)
