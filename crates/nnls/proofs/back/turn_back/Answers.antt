-- `turn_back`: after j turns the first j columns are turned back.
use mathlib.Core.Path.{◌≡◌, refl}
use native.Mathlib.Omega.{arith}
use lib.ListN.{length-set}
use Rattle.nnls.proofs.Crowded.{back_none, back_more}
use Rattle.nnls.proofs.back.turn_back.Goals as goal

pub loop-j-init : goal.loop-j-init
loop-j-init c = (omega arith, omega arith, refl, back_none _ _)

pub overflow_add-j : goal.overflow_add-j
overflow_add-j c = omega arith

pub offset_bounds-w-j : goal.offset_bounds-w-j
offset_bounds-w-j c = omega arith

pub bounds-w-j : goal.bounds-w-j
bounds-w-j c = omega arith

pub offset_bounds-iw-j : goal.offset_bounds-iw-j
offset_bounds-iw-j c = omega arith

pub bounds-iw-j : goal.bounds-iw-j
bounds-iw-j c = omega arith

pub overflow_add-j-in-loop-j : goal.overflow_add-j-in-loop-j
overflow_add-j-in-loop-j c = omega arith

pub offset_bounds-iw-j-in-loop-j : goal.offset_bounds-iw-j-in-loop-j
offset_bounds-iw-j-in-loop-j c = omega arith

pub bounds-iw-j-in-loop-j : goal.bounds-iw-j-in-loop-j
bounds-iw-j-in-loop-j c = omega arith

pub overflow_add-iw : goal.overflow_add-iw
overflow_add-iw c = omega arith

pub offset_bounds-iw-j-in-loop-j-2 : goal.offset_bounds-iw-j-in-loop-j-2
offset_bounds-iw-j-in-loop-j-2 c = omega arith

pub bounds-iw-j-in-loop-j-2 : goal.bounds-iw-j-in-loop-j-2
bounds-iw-j-in-loop-j-2 c = omega arith

pub overflow_add-c : goal.overflow_add-c
overflow_add-c c = omega arith

pub overflow_step-j : goal.overflow_step-j
overflow_step-j c = omega arith

pub loop-j-smaller : goal.loop-j-smaller
loop-j-smaller c = omega arith

pub loop-j-preserved : goal.loop-j-preserved
loop-j-preserved c = let l = c.loop-j in
    let e = c.turn_one-t.ensures in (
      omega arith,
      omega (arith, e.2, l.invariant.1),
      simp length-set l.invariant.2,
      back_more c.args.w.now c.args.iw.now l.iw l.j l.c _ _ (omega arith) (omega (arith, l.invariant.2, c.requires)) e l.invariant.3,
    )

pub shape_of-iw : goal.shape_of-iw
shape_of-iw c = c.loop-j.invariant.2

pub returns : goal.returns
returns c = let l = c.loop-j in
    let e : l.j ≡ c.args.n = omega arith in
    rw (← e) l.invariant.3
