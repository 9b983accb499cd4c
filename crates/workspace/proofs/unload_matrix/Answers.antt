-- `unload_matrix`: after i turns i rows are out.
use mathlib.Core.Path.{◌≡◌, refl, ◌∙◌}
use native.Mathlib.Omega.{arith}
use Rattle.numbers.proofs.Lists.{row_fits}
use Rattle.workspace.proofs.Copies.{rowed-none, rowed-more, rowed-mat}
use Rattle.workspace.proofs.unload_matrix.Goals as goal

pub loop-i-init : goal.loop-i-init
loop-i-init c = (omega arith, refl, rowed-none _ _ _)

pub overflow_add-o : goal.overflow_add-o
overflow_add-o c = omega arith

pub overflow_mul-i : goal.overflow_mul-i
overflow_mul-i c = omega (arith, row_fits c.args.m c.args.n c.loop-i.i c.loop-i-test.true, c.requires.3)

pub copy_strided-requires : goal.copy_strided-requires
copy_strided-requires c = let l = c.loop-i in
    (λ t h. omega arith, omega (arith, row_fits c.args.m c.args.n c.loop-i.i c.loop-i-test.true, c.requires.3, l.invariant.1))

pub overflow_step-i : goal.overflow_step-i
overflow_step-i c = omega arith

pub loop-i-smaller : goal.loop-i-smaller
loop-i-smaller c = omega arith

pub loop-i-preserved : goal.loop-i-preserved
loop-i-preserved c = let l = c.loop-i in
    let k = c.copy_strided in
    (omega arith, k.auto.dst ∙ l.invariant.1, rowed-more _ _ _ _ _ k.ensures l.invariant.2)

pub shape_of-a : goal.shape_of-a
shape_of-a c = c.loop-i.invariant.1

pub returns : goal.returns
returns c = let l = c.loop-i in
    let e : l.i ≡ c.args.m = omega arith in
    rowed-mat _ _ _ _ _ (omega arith) (rw e at l.invariant.2)
