-- `load_stack`: after k turns k rows are in.
use mathlib.Core.Path.{◌≡◌, refl, ◌∙◌}
use native.Mathlib.Omega.{arith}
use Rattle.numbers.proofs.Lists.{row_fits}
use Rattle.workspace.proofs.Copies.{laid_none, laid_more, laid-stack, row_in}
use Rattle.workspace.proofs.load_stack.Goals as goal

pub loop-k-init : goal.loop-k-init
loop-k-init c = (omega arith, refl, laid_none _ _ _ _)

pub overflow_mul-k : goal.overflow_mul-k
overflow_mul-k c = omega (arith, row_fits c.args.c c.args.m c.loop-k.k c.loop-k-test.true, c.requires.2)

pub overflow_mul-k-in-loop-k : goal.overflow_mul-k-in-loop-k
overflow_mul-k-in-loop-k c = omega arith

pub overflow_add-o : goal.overflow_add-o
overflow_add-o c = omega arith

pub copy_strided-requires : goal.copy_strided-requires
copy_strided-requires c = (row_in c.args.c c.args.m c.loop-k.k _ c.loop-k-test.true c.requires.2, omega arith)

pub overflow_step-k : goal.overflow_step-k
overflow_step-k c = omega arith

pub loop-k-smaller : goal.loop-k-smaller
loop-k-smaller c = omega arith

pub loop-k-preserved : goal.loop-k-preserved
loop-k-preserved c = let l = c.loop-k in
    let k = c.copy_strided in
    (omega arith, k.auto.dst ∙ l.invariant.1, laid_more _ _ _ _ _ _ _ c.requires.1 k.ensures l.invariant.2)

pub shape_of-w : goal.shape_of-w
shape_of-w c = c.loop-k.invariant.1

pub returns : goal.returns
returns c = let l = c.loop-k in
    let e : l.k ≡ c.args.c = omega arith in
    laid-stack _ _ _ _ _ _ c.requires.2 (rw e at l.invariant.2)
