-- `space`: after t turns t entries are copied, and what is still to be read is as it was.
use mathlib.Core.Path.{◌≡◌, refl}
use Prim.Native.Nat.{◌+◌}
use native.Mathlib.Omega.{arith}
use lib.ListN.{length-set}
use Rattle.lsei.proofs.Spacing.{spaced-none, spaced-more}
use Rattle.lsei_nullspace.proofs.space.Goals as goal

pub loop-t-init : goal.loop-t-init
loop-t-init c = (omega arith, refl, spaced-none _ _ _)

pub overflow_add-w : goal.overflow_add-w
overflow_add-w c = omega arith

pub offset_bounds-w-p : goal.offset_bounds-w-p
offset_bounds-w-p c = omega arith

pub bounds-w-p : goal.bounds-w-p
bounds-w-p c = omega arith

pub overflow_mul-w : goal.overflow_mul-w
overflow_mul-w c = omega arith

pub overflow_add-w-in-loop-t : goal.overflow_add-w-in-loop-t
overflow_add-w-in-loop-t c = omega arith

pub offset_bounds-w-q : goal.offset_bounds-w-q
offset_bounds-w-q c = omega arith

pub bounds-w-q : goal.bounds-w-q
bounds-w-q c = omega arith

pub overflow_step-t : goal.overflow_step-t
overflow_step-t c = omega arith

pub loop-t-smaller : goal.loop-t-smaller
loop-t-smaller c = omega arith

pub loop-t-preserved : goal.loop-t-preserved
loop-t-preserved c = let a = c.args in
    let l = c.loop-t in
    let r = l.invariant.2 in
    (omega arith, simp length-set l.invariant.1, spaced-more a.q l.t _ a.w.now l.w _ (omega arith) (r.others (a.p + l.t) (λ i h e. omega arith)) r)

pub shape_of-w : goal.shape_of-w
shape_of-w c = c.loop-t.invariant.1

pub returns : goal.returns
returns c = let e : c.loop-t.t ≡ c.args.c = omega arith in rw (← e) c.loop-t.invariant.2
