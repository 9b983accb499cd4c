-- `copy_strided`: after t turns t entries are copied.
use mathlib.Core.Path.{◌≡◌, refl}
use native.Mathlib.Omega.{arith}
use lib.ListN.{length-set}
use lib.Ieee.{nan}
use Rattle.workspace.proofs.Writes.{written_none, written-more}
use Rattle.workspace.proofs.copy_strided.Goals as goal

pub loop-t-init : goal.loop-t-init
loop-t-init c = (omega arith, refl, written_none nan _ _ _)

pub overflow_mul-dst : goal.overflow_mul-dst
overflow_mul-dst c = omega (arith, c.requires.0 c.loop-t.t c.loop-t-test.true)

pub overflow_add-dst : goal.overflow_add-dst
overflow_add-dst c = omega (arith, c.requires.0 c.loop-t.t c.loop-t-test.true)

pub offset_bounds-src-p : goal.offset_bounds-src-p
offset_bounds-src-p c = omega (arith, c.requires.0 c.loop-t.t c.loop-t-test.true)

pub bounds-src-p : goal.bounds-src-p
bounds-src-p c = c.requires.0 c.loop-t.t c.loop-t-test.true

pub overflow_add-dst-in-loop-t : goal.overflow_add-dst-in-loop-t
overflow_add-dst-in-loop-t c = omega arith

pub offset_bounds-dst-q : goal.offset_bounds-dst-q
offset_bounds-dst-q c = omega arith

pub bounds-dst-q : goal.bounds-dst-q
bounds-dst-q c = omega arith

pub overflow_step-t : goal.overflow_step-t
overflow_step-t c = omega arith

pub loop-t-smaller : goal.loop-t-smaller
loop-t-smaller c = omega arith

pub loop-t-preserved : goal.loop-t-preserved
loop-t-preserved c = let a = c.args in
    let l = c.loop-t in
    (omega arith, simp length-set l.invariant.1, written-more nan _ _ _ _ _ _ (omega arith) refl l.invariant.2)

pub shape_of-dst : goal.shape_of-dst
shape_of-dst c = c.loop-t.invariant.1

pub returns : goal.returns
returns c = let e : c.loop-t.t ≡ c.args.c = omega arith in rw (← e) c.loop-t.invariant.2
