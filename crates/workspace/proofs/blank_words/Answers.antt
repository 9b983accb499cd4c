-- `blank_words`: after t turns t entries are written.
use mathlib.Core.Path.{◌≡◌, refl}
use native.Mathlib.Omega.{arith}
use lib.ListN.{length-set}
use Rattle.workspace.proofs.Writes.{written_none, written-more}
use Rattle.workspace.proofs.blank_words.Goals as goal

pub loop-t-init : goal.loop-t-init
loop-t-init c = (omega arith, refl, written_none 0 _ _ _)

pub overflow_add-iw : goal.overflow_add-iw
overflow_add-iw c = omega arith

pub offset_bounds-iw-o : goal.offset_bounds-iw-o
offset_bounds-iw-o c = omega arith

pub bounds-iw-o : goal.bounds-iw-o
bounds-iw-o c = omega arith

pub overflow_step-t : goal.overflow_step-t
overflow_step-t c = omega arith

pub loop-t-smaller : goal.loop-t-smaller
loop-t-smaller c = omega arith

pub loop-t-preserved : goal.loop-t-preserved
loop-t-preserved c = (omega arith, simp length-set c.loop-t.invariant.1, written-more 0 _ _ _ _ _ _ (omega arith) refl c.loop-t.invariant.2)

pub shape_of-iw : goal.shape_of-iw
shape_of-iw c = c.loop-t.invariant.1

pub returns : goal.returns
returns c = let e : c.loop-t.t ≡ c.args.c = omega arith in rw (← e) c.loop-t.invariant.2
