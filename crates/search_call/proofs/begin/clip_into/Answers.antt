-- `clip_into`: after i turns i coordinates are written.
use mathlib.Core.Path.{◌≡◌, refl}
use native.Mathlib.Omega.{arith}
use lib.ListN.{length-set}
use lib.Ieee.{nan}
use Rattle.workspace.proofs.Writes.{written_none, written-more}
use Rattle.search.proofs.Laying.{written-laid}
use Rattle.search_call.proofs.begin.clip_into.Goals as goal

pub loop-i-init : goal.loop-i-init
loop-i-init c = (omega arith, refl, written_none nan _ _ _)

pub offset_bounds-lower-i : goal.offset_bounds-lower-i
offset_bounds-lower-i c = omega arith

pub bounds-lower-i : goal.bounds-lower-i
bounds-lower-i c = omega arith

pub offset_bounds-upper-i : goal.offset_bounds-upper-i
offset_bounds-upper-i c = omega arith

pub bounds-upper-i : goal.bounds-upper-i
bounds-upper-i c = omega arith

pub offset_bounds-x-i : goal.offset_bounds-x-i
offset_bounds-x-i c = omega arith

pub bounds-x-i : goal.bounds-x-i
bounds-x-i c = omega arith

pub clip_to-requires : goal.clip_to-requires
clip_to-requires c = tt

pub overflow_add-f : goal.overflow_add-f
overflow_add-f c = omega arith

pub offset_bounds-f-o : goal.offset_bounds-f-o
offset_bounds-f-o c = omega arith

pub bounds-f-o : goal.bounds-f-o
bounds-f-o c = omega arith

pub overflow_step-i : goal.overflow_step-i
overflow_step-i c = omega arith

pub loop-i-smaller : goal.loop-i-smaller
loop-i-smaller c = omega arith

pub loop-i-preserved : goal.loop-i-preserved
loop-i-preserved c = let l = c.loop-i in (omega arith, simp length-set l.invariant.1, written-more nan _ _ _ _ _ _ (omega arith) c.clip_to.ensures l.invariant.2)

pub shape_of-f : goal.shape_of-f
shape_of-f c = c.loop-i.invariant.1

pub returns : goal.returns
returns c = let a = c.args in let l = c.loop-i in let e : l.i ≡ a.n = omega arith in rw (← e) (written-laid nan a.o l.i _ _ _ l.invariant.1 (omega arith) l.invariant.2)
