-- `spread`: after t turns t entries stand in z.
use mathlib.Core.Path.{◌≡◌, refl}
use native.Mathlib.Omega.{arith}
use lib.ListN.{length-set}
use Rattle.numbers.specs.Numbers.{at}
use Rattle.nnls_passive.proofs.Spreads.{spread_none, spread-more}
use Rattle.nnls_passive.proofs.spread.Goals as goal

pub loop-t-init : goal.loop-t-init
loop-t-init c = (omega arith, refl, spread_none _ _ _ _)

pub overflow_add-j : goal.overflow_add-j
overflow_add-j c = omega arith

pub offset_bounds-iw-t : goal.offset_bounds-iw-t
offset_bounds-iw-t c = omega arith

pub bounds-iw-t : goal.bounds-iw-t
bounds-iw-t c = omega arith

pub overflow_cast-j : goal.overflow_cast-j
overflow_cast-j c = omega (arith, c.requires.4 c.loop-t.t c.loop-t-test.true)

pub overflow_add-v : goal.overflow_add-v
overflow_add-v c = omega arith

pub offset_bounds-w-t : goal.offset_bounds-w-t
offset_bounds-w-t c = omega arith

pub bounds-w-t : goal.bounds-w-t
bounds-w-t c = omega arith

pub overflow_add-w : goal.overflow_add-w
overflow_add-w c = omega (arith, c.requires.4 c.loop-t.t c.loop-t-test.true)

pub offset_bounds-w-j : goal.offset_bounds-w-j
offset_bounds-w-j c = omega (arith, c.requires.4 c.loop-t.t c.loop-t-test.true)

pub bounds-w-j : goal.bounds-w-j
bounds-w-j c = omega (arith, c.requires.4 c.loop-t.t c.loop-t-test.true)

pub overflow_step-t : goal.overflow_step-t
overflow_step-t c = omega arith

pub loop-t-smaller : goal.loop-t-smaller
loop-t-smaller c = omega arith

pub loop-t-preserved : goal.loop-t-preserved
loop-t-preserved c = let a = c.args in
    let l = c.loop-t in (
      omega arith,
      simp length-set l.invariant.1,
      spread-more a.n l.t a.c a.iw.now a.w.now l.w (omega arith) (omega arith) (omega arith)
          (c.requires.4 l.t c.loop-t-test.true) l.invariant.2,
    )

pub shape_of-w : goal.shape_of-w
shape_of-w c = c.loop-t.invariant.1

pub returns : goal.returns
returns c = let e : c.loop-t.t ≡ c.args.c = omega arith in
    rw e at c.loop-t.invariant.2
