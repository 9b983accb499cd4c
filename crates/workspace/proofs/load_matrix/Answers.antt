-- `load_matrix`: after j turns j columns are in.
use mathlib.Core.Path.{◌≡◌, refl, ◌∙◌}
use native.Mathlib.Omega.{arith}
use Rattle.workspace.proofs.Copies.{laid_none, laid_more, laid-matrix, column-in}
use Rattle.workspace.proofs.load_matrix.Goals as goal

pub loop-j-init : goal.loop-j-init
loop-j-init c = (omega arith, refl, laid_none _ _ _ _)

pub overflow_mul-j : goal.overflow_mul-j
overflow_mul-j c = omega arith

pub overflow_add-o : goal.overflow_add-o
overflow_add-o c = omega arith

pub copy_strided-requires : goal.copy_strided-requires
copy_strided-requires c = (column-in c.args.m c.args.n c.loop-j.j _ c.loop-j-test.true c.requires.2, omega arith)

pub overflow_step-j : goal.overflow_step-j
overflow_step-j c = omega arith

pub loop-j-smaller : goal.loop-j-smaller
loop-j-smaller c = omega arith

pub loop-j-preserved : goal.loop-j-preserved
loop-j-preserved c = let l = c.loop-j in
    let k = c.copy_strided in
    (omega arith, k.auto.dst ∙ l.invariant.1, laid_more _ _ _ _ _ _ _ c.requires.0 k.ensures l.invariant.2)

pub shape_of-w : goal.shape_of-w
shape_of-w c = c.loop-j.invariant.1

pub returns : goal.returns
returns c = let l = c.loop-j in
    let e : l.j ≡ c.args.n = omega arith in
    laid-matrix _ _ _ _ _ _ c.requires.2 (rw e at l.invariant.2)
