-- `add_front`: after t turns t sums are written.
use mathlib.Core.Path.{◌≡◌, refl, ap₂}
use Prim.Native.Nat.{◌+◌}
use native.Mathlib.Omega.{arith}
use lib.ListN.{length-set}
use lib.Ieee.{nan}
use Rattle.numbers.specs.Numbers.{◌⊕◌}
use Rattle.workspace.proofs.Writes.{written_none, written-more}
use Rattle.lsei.proofs.add_front.Goals as goal

pub loop-t-init : goal.loop-t-init
loop-t-init c = (omega arith, refl, written_none nan _ _ _)

pub overflow_add-w : goal.overflow_add-w
overflow_add-w c = omega arith

pub offset_bounds-w-t : goal.offset_bounds-w-t
offset_bounds-w-t c = omega arith

pub bounds-w-t : goal.bounds-w-t
bounds-w-t c = omega arith

pub overflow_add-w-in-loop-t : goal.overflow_add-w-in-loop-t
overflow_add-w-in-loop-t c = omega arith

pub offset_bounds-w-t-in-loop-t : goal.offset_bounds-w-t-in-loop-t
offset_bounds-w-t-in-loop-t c = omega arith

pub bounds-w-t-in-loop-t : goal.bounds-w-t-in-loop-t
bounds-w-t-in-loop-t c = omega arith

pub overflow_add-w-in-loop-t-2 : goal.overflow_add-w-in-loop-t-2
overflow_add-w-in-loop-t-2 c = omega arith

pub offset_bounds-w-t-in-loop-t-2 : goal.offset_bounds-w-t-in-loop-t-2
offset_bounds-w-t-in-loop-t-2 c = omega arith

pub bounds-w-t-in-loop-t-2 : goal.bounds-w-t-in-loop-t-2
bounds-w-t-in-loop-t-2 c = omega arith

pub overflow_step-t : goal.overflow_step-t
overflow_step-t c = omega arith

pub loop-t-smaller : goal.loop-t-smaller
loop-t-smaller c = omega arith

pub loop-t-preserved : goal.loop-t-preserved
loop-t-preserved c = let a = c.args in
    let l = c.loop-t in
    let r = l.invariant.2 in (
      omega arith,
      simp length-set l.invariant.1,
      written-more nan 342 l.t _ a.w.now l.w _ (omega arith) (ap₂ ◌⊕◌ (r.after (2154 + l.t) (omega arith)) (r.after (732 + l.t) (omega arith))) r,
    )

pub shape_of-w : goal.shape_of-w
shape_of-w c = c.loop-t.invariant.1

pub returns : goal.returns
returns c = let e : c.loop-t.t ≡ c.args.n = omega arith in rw (← e) c.loop-t.invariant.2
