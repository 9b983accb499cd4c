-- `unload_words`: after t turns t numbers are copied.
use mathlib.Core.Path.{◌≡◌, refl}
use native.Mathlib.Omega.{arith}
use lib.ListN.{length-set}
use Rattle.workspace.specs.Readings.{nums}
use Rattle.workspace.proofs.Writes.{written_none, written-front, written_all}
use Rattle.workspace.proofs.unload_words.Goals as goal

pub loop-t-init : goal.loop-t-init
loop-t-init c = (omega arith, refl, written_none 0 _ _ _)

pub overflow_add-l : goal.overflow_add-l
overflow_add-l c = omega arith

pub offset_bounds-iw-o : goal.offset_bounds-iw-o
offset_bounds-iw-o c = omega arith

pub bounds-iw-o : goal.bounds-iw-o
bounds-iw-o c = omega arith

pub offset_bounds-l-t : goal.offset_bounds-l-t
offset_bounds-l-t c = omega arith

pub bounds-l-t : goal.bounds-l-t
bounds-l-t c = omega arith

pub overflow_step-t : goal.overflow_step-t
overflow_step-t c = omega arith

pub loop-t-smaller : goal.loop-t-smaller
loop-t-smaller c = omega arith

pub loop-t-preserved : goal.loop-t-preserved
loop-t-preserved c = (omega arith, simp length-set c.loop-t.invariant.1, written-front 0 _ _ _ _ _ (omega arith) refl c.loop-t.invariant.2)

pub shape_of-l : goal.shape_of-l
shape_of-l c = c.loop-t.invariant.1

pub returns : goal.returns
unfolding nums
returns c = let e : c.loop-t.t ≡ c.args.n = omega arith in
    written_all 0 _ _ _ _ (omega arith) (rw e at c.loop-t.invariant.2)
