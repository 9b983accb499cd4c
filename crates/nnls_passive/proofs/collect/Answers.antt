-- `collect`: after t turns t columns are copied.
use mathlib.Core.Path.{◌≡◌, refl, ◌∙◌}
use native.Mathlib.Omega.{arith}
use Rattle.nnls_passive.proofs.Columns.{collected-none, collected-more}
use Rattle.nnls_passive.proofs.collect.Goals as goal

pub loop-t-init : goal.loop-t-init
loop-t-init c = (omega arith, refl, collected-none _ _ _)

pub overflow_add-j : goal.overflow_add-j
overflow_add-j c = omega arith

pub offset_bounds-iw-t : goal.offset_bounds-iw-t
offset_bounds-iw-t c = omega arith

pub bounds-iw-t : goal.bounds-iw-t
bounds-iw-t c = omega arith

pub overflow_cast-j : goal.overflow_cast-j
overflow_cast-j c = omega (arith, c.requires.4 c.loop-t.t c.loop-t-test.true)

pub overflow_mul-j : goal.overflow_mul-j
overflow_mul-j c = omega (arith, c.requires.4 c.loop-t.t c.loop-t-test.true)

pub overflow_mul-t : goal.overflow_mul-t
overflow_mul-t c = omega arith

pub overflow_add-t : goal.overflow_add-t
overflow_add-t c = omega arith

pub copy_up-requires : goal.copy_up-requires
copy_up-requires c = let j = c.requires.4 c.loop-t.t c.loop-t-test.true in
    (omega arith, omega arith)

pub overflow_step-t : goal.overflow_step-t
overflow_step-t c = omega arith

pub loop-t-smaller : goal.loop-t-smaller
loop-t-smaller c = omega arith

pub loop-t-preserved : goal.loop-t-preserved
loop-t-preserved c = let a = c.args in
    let l = c.loop-t in (
      omega arith,
      c.copy_up.auto.w ∙ l.invariant.1,
      collected-more a.m l.t a.iw.now a.w.now l.w _ c.requires.0 (c.requires.4 l.t c.loop-t-test.true)
          c.copy_up.ensures l.invariant.2,
    )

pub shape_of-w : goal.shape_of-w
shape_of-w c = c.loop-t.invariant.1

pub returns : goal.returns
returns c = let e : c.loop-t.t ≡ c.args.c = omega arith in
    rw (← e) c.loop-t.invariant.2
