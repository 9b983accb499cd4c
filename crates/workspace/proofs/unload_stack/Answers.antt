-- `unload_stack`: after k turns k vectors are out.
use mathlib.Core.Path.{◌≡◌, refl, ◌∙◌}
use native.Mathlib.Omega.{arith}
use Rattle.numbers.proofs.Lists.{row_fits}
use Rattle.workspace.proofs.Copies.{rowed-none, rowed-more, rowed-stack}
use Rattle.workspace.proofs.unload_stack.Goals as goal

pub loop-k-init : goal.loop-k-init
loop-k-init c = (omega arith, refl, rowed-none _ _ _)

pub overflow_mul-k : goal.overflow_mul-k
overflow_mul-k c = omega arith

pub overflow_add-o : goal.overflow_add-o
overflow_add-o c = omega arith

pub overflow_mul-k-in-loop-k : goal.overflow_mul-k-in-loop-k
overflow_mul-k-in-loop-k c = omega (arith, row_fits c.args.c c.args.m c.loop-k.k c.loop-k-test.true, c.requires.3)

pub copy_strided-requires : goal.copy_strided-requires
copy_strided-requires c = let l = c.loop-k in
    (λ t h. omega arith, omega (arith, row_fits c.args.c c.args.m c.loop-k.k c.loop-k-test.true, c.requires.3, l.invariant.1))

pub overflow_step-k : goal.overflow_step-k
overflow_step-k c = omega arith

pub loop-k-smaller : goal.loop-k-smaller
loop-k-smaller c = omega arith

pub loop-k-preserved : goal.loop-k-preserved
loop-k-preserved c = let l = c.loop-k in
    let k = c.copy_strided in
    (omega arith, k.auto.dst ∙ l.invariant.1, rowed-more _ _ _ _ _ k.ensures l.invariant.2)

pub shape_of-a : goal.shape_of-a
shape_of-a c = c.loop-k.invariant.1

pub returns : goal.returns
returns c = let l = c.loop-k in
    let e : l.k ≡ c.args.c = omega arith in
    rowed-stack _ _ _ _ _ (omega arith) (rw e at l.invariant.2)
