-- `load_sides`: after t turns t sides are in.
use mathlib.Core.Path.{◌≡◌, refl}
use native.Mathlib.Omega.{arith}
use lib.ListN.{length-set}
use Rattle.lsei.proofs.Spacing.{spaced-none, spaced-more}
use Rattle.lsei_call.proofs.inputs.load_sides.Goals as goal

pub loop-t-init : goal.loop-t-init
loop-t-init c = (omega arith, refl, spaced-none _ _ _)

pub offset_bounds-h-t : goal.offset_bounds-h-t
offset_bounds-h-t c = omega arith

pub bounds-h-t : goal.bounds-h-t
bounds-h-t c = omega arith

pub overflow_mul-w : goal.overflow_mul-w
overflow_mul-w c = omega arith

pub overflow_add-w : goal.overflow_add-w
overflow_add-w c = omega arith

pub offset_bounds-w-q : goal.offset_bounds-w-q
offset_bounds-w-q c = omega arith

pub bounds-w-q : goal.bounds-w-q
bounds-w-q c = omega arith

pub overflow_step-t : goal.overflow_step-t
overflow_step-t c = omega arith

pub loop-t-smaller : goal.loop-t-smaller
loop-t-smaller c = omega arith

pub loop-t-preserved : goal.loop-t-preserved
loop-t-preserved c = let a = c.args in
    let l = c.loop-t in
    (omega arith, simp length-set l.invariant.1, spaced-more a.q l.t _ a.w.now l.w _ (omega arith) refl l.invariant.2)

pub shape_of-w : goal.shape_of-w
shape_of-w c = c.loop-t.invariant.1

pub returns : goal.returns
returns c = let e : c.loop-t.t ≡ c.args.m = omega arith in rw (← e) c.loop-t.invariant.2
