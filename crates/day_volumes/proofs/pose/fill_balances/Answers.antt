use mathlib.Core.Path.{refl, ◌∙◌}
use Rattle.numbers.proofs.Lists.{row_fits}
use Rattle.day_volumes.proofs.Posing.{square-fits, rows_none, rows_more, rows_all, row_as, balances-are}
use native.Mathlib.Omega.{arith}
use Rattle.day_volumes.proofs.pose.fill_balances.Goals as goal

pub loop-j-init : goal.loop-j-init
loop-j-init c = (omega arith, refl, rows_none _ _ _)

pub overflow_mul-j : goal.overflow_mul-j
overflow_mul-j c = omega arith

pub overflow_add-j : goal.overflow_add-j
overflow_add-j c = omega arith

pub overflow_mul-j-in-loop-j : goal.overflow_mul-j-in-loop-j
overflow_mul-j-in-loop-j c = omega (arith, square-fits c.args.n c.loop-j.j c.requires.0 (omega (arith, c.requires.1)))

pub copy_strided-requires : goal.copy_strided-requires
copy_strided-requires c = (λ t h. omega (arith, h, c.requires.0, c.requires.1, c.requires.2), omega (arith, row_fits _ c.args.n _ c.loop-j-test.true, c.requires.3, c.loop-j.invariant.1))

pub overflow_step-j : goal.overflow_step-j
overflow_step-j c = omega arith

pub loop-j-smaller : goal.loop-j-smaller
loop-j-smaller c = omega arith

pub loop-j-preserved : goal.loop-j-preserved
loop-j-preserved c = let l = c.loop-j in (omega arith, c.copy_strided.auto.dst ∙ l.invariant.1, rows_more _ _ _ _ _ (omega (arith, row_fits _ c.args.n _ c.loop-j-test.true, c.requires.3, l.invariant.1)) c.copy_strided.auto.dst (row_as c.args.n l.j c.args.f.now _ _ c.copy_strided.ensures) l.invariant.2)

pub shape_of-out : goal.shape_of-out
shape_of-out c = c.loop-j.invariant.1

pub returns : goal.returns
returns c = let l = c.loop-j in balances-are _ _ _ _ (rows_all _ _ _ _ _ (omega arith) (l.invariant.1 ∙ c.requires.3) l.invariant.2)
