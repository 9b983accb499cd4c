-- `lift`: after t turns t numbers are lifted.
use mathlib.Core.Path.{◌≡◌, refl, ap, ap₂}
use Prim.Native.Nat.{◌+◌}
use native.Mathlib.Omega.{arith}
use lib.ListN.{length-set}
use lib.Ieee.{nan, Float}
use Rattle.numbers.specs.Numbers.{◌⊕◌, ◌⊗◌}
use Rattle.workspace.proofs.Writes.{written_none, written-more}
use Rattle.householder.proofs.vectors.lift.Goals as goal

pub loop-t-init : goal.loop-t-init
loop-t-init c = (omega arith, refl, written_none nan _ _ _)

pub overflow_add-w : goal.overflow_add-w
overflow_add-w c = omega arith

pub offset_bounds-w-q : goal.offset_bounds-w-q
offset_bounds-w-q c = omega arith

pub bounds-w-q : goal.bounds-w-q
bounds-w-q c = omega arith

pub overflow_add-w-in-loop-t : goal.overflow_add-w-in-loop-t
overflow_add-w-in-loop-t c = omega arith

pub offset_bounds-w-p : goal.offset_bounds-w-p
offset_bounds-w-p c = omega arith

pub bounds-w-p : goal.bounds-w-p
bounds-w-p c = omega arith

pub overflow_add-w-in-loop-t-2 : goal.overflow_add-w-in-loop-t-2
overflow_add-w-in-loop-t-2 c = omega arith

pub offset_bounds-w-q-in-loop-t : goal.offset_bounds-w-q-in-loop-t
offset_bounds-w-q-in-loop-t c = omega arith

pub bounds-w-q-in-loop-t : goal.bounds-w-q-in-loop-t
bounds-w-q-in-loop-t c = omega arith

pub overflow_step-t : goal.overflow_step-t
overflow_step-t c = omega arith

pub loop-t-smaller : goal.loop-t-smaller
loop-t-smaller c = omega arith

pub loop-t-preserved : goal.loop-t-preserved
loop-t-preserved c = let a = c.args in
    let l = c.loop-t in
    let r = l.invariant.2 in (
      omega arith,
      simp length-set l.invariant.1,
      written-more nan _ _ _ _ _ _ (omega arith) (ap₂ ◌⊕◌ (r.after (a.q + l.t) (omega arith)) (ap (λ (x : Float). a.s ⊗ x) (r.before (a.p + l.t) (omega arith)))) r,
    )

pub shape_of-w : goal.shape_of-w
shape_of-w c = c.loop-t.invariant.1

pub returns : goal.returns
returns c = let e : c.loop-t.t ≡ c.args.c = omega arith in rw (← e) c.loop-t.invariant.2
