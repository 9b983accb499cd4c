-- `write_targets`: after i turns i entries are written.
use mathlib.Core.Path.{◌≡◌, refl}
use native.Mathlib.Omega.{arith}
use lib.ListN.{length-set}
use lib.Ieee.{nan}
use Rattle.workspace.proofs.Writes.{written_none, written-more}
use Rattle.reconcile.proofs.Problems.{target_is}
use Rattle.reconcile.proofs.write_targets.Goals as goal

pub loop-i-init : goal.loop-i-init
loop-i-init c = (omega arith, refl, written_none nan _ _ _)

pub offset_bounds-before-i : goal.offset_bounds-before-i
offset_bounds-before-i c = omega arith

pub bounds-before-i : goal.bounds-before-i
bounds-before-i c = omega arith

pub offset_bounds-after-i : goal.offset_bounds-after-i
offset_bounds-after-i c = omega arith

pub bounds-after-i : goal.bounds-after-i
bounds-after-i c = omega arith

pub volume_between-v-requires : goal.volume_between-v-requires
volume_between-v-requires c = let p = c.requires.0 in
    (p.old _ (omega (arith, p.lb)), p.new _ (omega (arith, p.la)))

pub int_to_float-v : goal.int_to_float-v
int_to_float-v c = tt

pub offset_bounds-spreads-i : goal.offset_bounds-spreads-i
offset_bounds-spreads-i c = omega arith

pub bounds-spreads-i : goal.bounds-spreads-i
bounds-spreads-i c = omega arith

pub overflow_add-w : goal.overflow_add-w
overflow_add-w c = omega arith

pub offset_bounds-w-i : goal.offset_bounds-w-i
offset_bounds-w-i c = omega arith

pub bounds-w-i : goal.bounds-w-i
bounds-w-i c = omega arith

pub overflow_step-i : goal.overflow_step-i
overflow_step-i c = omega arith

pub loop-i-smaller : goal.loop-i-smaller
loop-i-smaller c = omega arith

pub loop-i-preserved : goal.loop-i-preserved
loop-i-preserved c = let l = c.loop-i in
    (omega arith, simp length-set l.invariant.1, written-more nan _ _ _ _ _ _ (omega arith) (target_is _ _ _ c.volume_between-v.ensures) l.invariant.2)

pub shape_of-w : goal.shape_of-w
shape_of-w c = c.loop-i.invariant.1

pub returns : goal.returns
returns c = let l = c.loop-i in
    let e : l.i ≡ c.args.n = omega arith in
    rw (← e) l.invariant.2
