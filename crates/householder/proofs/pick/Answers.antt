-- `pick`: after t turns t entries are picked, and what is still to be read is as it was.
use mathlib.Core.Path.{◌≡◌, refl}
use Prim.Native.Nat.{◌+◌}
use native.Mathlib.Omega.{arith}
use lib.ListN.{length-set}
use lib.Ieee.{nan}
use Rattle.numbers.specs.Numbers.{nth}
use Rattle.workspace.proofs.Writes.{written_none, written-more}
use Rattle.householder.proofs.pick.Goals as goal

pub loop-t-init : goal.loop-t-init
loop-t-init c = (omega arith, refl, written_none nan _ _ _)

pub offset_bounds-iw-t : goal.offset_bounds-iw-t
offset_bounds-iw-t c = omega arith

pub bounds-iw-t : goal.bounds-iw-t
bounds-iw-t c = omega arith

pub overflow_cast-j : goal.overflow_cast-j
overflow_cast-j c = omega (arith, c.requires.3 c.loop-t.t c.loop-t-test.true)

pub overflow_add-v : goal.overflow_add-v
overflow_add-v c = omega (arith, c.requires.3 c.loop-t.t c.loop-t-test.true)

pub offset_bounds-w-o : goal.offset_bounds-w-o
offset_bounds-w-o c = omega (arith, c.requires.3 c.loop-t.t c.loop-t-test.true)

pub bounds-w-o : goal.bounds-w-o
bounds-w-o c = let l = c.loop-t in
    omega (arith, c.requires.3 c.loop-t.t c.loop-t-test.true)

pub overflow_add-w : goal.overflow_add-w
overflow_add-w c = omega (arith, c.requires.3 c.loop-t.t c.loop-t-test.true)

pub offset_bounds-w-t : goal.offset_bounds-w-t
offset_bounds-w-t c = omega (arith, c.requires.3 c.loop-t.t c.loop-t-test.true)

pub bounds-w-t : goal.bounds-w-t
bounds-w-t c = omega (arith, c.requires.3 c.loop-t.t c.loop-t-test.true)

pub overflow_step-t : goal.overflow_step-t
overflow_step-t c = omega arith

pub loop-t-smaller : goal.loop-t-smaller
loop-t-smaller c = omega arith

pub loop-t-preserved : goal.loop-t-preserved
loop-t-preserved c = let a = c.args in
    let l = c.loop-t in
    (omega arith, simp length-set l.invariant.1, written-more nan _ _ _ _ _ _ (omega (arith, c.requires.3 c.loop-t.t c.loop-t-test.true)) (l.invariant.2.after (a.o + nth a.iw.now l.t) (omega arith)) l.invariant.2)

pub shape_of-w : goal.shape_of-w
shape_of-w c = c.loop-t.invariant.1

pub returns : goal.returns
returns c = let e : c.loop-t.t ≡ c.args.n = omega arith in rw (← e) c.loop-t.invariant.2
