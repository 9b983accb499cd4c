-- `permute`: after i turns i rows are permuted.
use mathlib.Core.Path.{◌≡◌, refl, ◌∙◌}
use native.Mathlib.Omega.{arith}
use Rattle.lsei.proofs.Rows.{permuted-none, permuted-more}
use Rattle.lsei.proofs.permute.Goals as goal

pub loop-i-init : goal.loop-i-init
loop-i-init c = (omega arith, refl, permuted-none _ _ _)

pub permute_row-requires : goal.permute_row-requires
permute_row-requires c = (omega arith, omega arith, omega (arith, c.loop-i.invariant, c.requires), c.requires.3, c.requires.4)

pub overflow_step-i : goal.overflow_step-i
overflow_step-i c = omega arith

pub loop-i-smaller : goal.loop-i-smaller
loop-i-smaller c = omega arith

pub loop-i-preserved : goal.loop-i-preserved
loop-i-preserved c = let l = c.loop-i in
    let k = c.permute_row in
    (omega arith, k.auto.w ∙ l.invariant.1, permuted-more c.args.n l.i c.args.iw.now c.args.w.now l.w k.new.w c.requires.0 k.ensures l.invariant.2)

pub shape_of-w : goal.shape_of-w
shape_of-w c = c.loop-i.invariant.1

pub returns : goal.returns
returns c = let l = c.loop-i in
    let e : l.i ≡ c.args.mg = omega arith in
    rw e at l.invariant.2
