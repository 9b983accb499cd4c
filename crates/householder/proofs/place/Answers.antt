-- `place`: after t turns t entries are placed.
use mathlib.Core.Path.{◌≡◌, refl}
use native.Mathlib.Omega.{arith}
use lib.ListN.{length-set}
use Rattle.numbers.specs.Numbers.{nth}
use Rattle.householder.proofs.Solving.{placed-none, placed-more}
use Rattle.householder.proofs.place.Goals as goal

pub loop-t-init : goal.loop-t-init
loop-t-init c = (omega arith, refl, placed-none _ _ _)

pub offset_bounds-iw-t : goal.offset_bounds-iw-t
offset_bounds-iw-t c = omega arith

pub bounds-iw-t : goal.bounds-iw-t
bounds-iw-t c = omega arith

pub overflow_cast-j : goal.overflow_cast-j
overflow_cast-j c = omega (arith, c.requires.4 c.loop-t.t c.loop-t-test.true)

pub overflow_add-v : goal.overflow_add-v
overflow_add-v c = omega arith

pub offset_bounds-w-t : goal.offset_bounds-w-t
offset_bounds-w-t c = omega arith

pub bounds-w-t : goal.bounds-w-t
bounds-w-t c = omega arith

pub overflow_add-w : goal.overflow_add-w
overflow_add-w c = omega (arith, c.requires.4 c.loop-t.t c.loop-t-test.true)

pub offset_bounds-w-j : goal.offset_bounds-w-j
offset_bounds-w-j c = omega (arith, c.requires.4 c.loop-t.t c.loop-t-test.true)

pub bounds-w-j : goal.bounds-w-j
bounds-w-j c = omega (arith, c.requires.4 c.loop-t.t c.loop-t-test.true)

pub overflow_step-t : goal.overflow_step-t
overflow_step-t c = omega arith

pub loop-t-smaller : goal.loop-t-smaller
loop-t-smaller c = omega arith

pub loop-t-preserved : goal.loop-t-preserved
loop-t-preserved c = let a = c.args in
    let l = c.loop-t in
    (omega arith, simp length-set l.invariant.1, placed-more a.n l.t (nth a.iw.now l.t) a.iw.now a.w.now l.w (omega arith) (omega arith) (omega arith) (c.requires.4 c.loop-t.t c.loop-t-test.true) refl l.invariant.2)

pub shape_of-w : goal.shape_of-w
shape_of-w c = c.loop-t.invariant.1

pub returns : goal.returns
returns c = let e : c.loop-t.t ≡ c.args.k = omega arith in rw (← e) c.loop-t.invariant.2
