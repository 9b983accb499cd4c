use mathlib.Core.Path.{◌≡◌, refl}
use lib.ListN.{length-set}
use Rattle.workspace.proofs.Writes.{written_none, written-more}
use native.Mathlib.Omega.{arith}
use Rattle.day_volumes.proofs.tables.put_sums.Goals as goal

pub loop-j-init : goal.loop-j-init
loop-j-init c = (omega arith, refl, written_none _ _ _ _)

pub overflow_mul-j : goal.overflow_mul-j
overflow_mul-j c = omega arith

pub overflow_add-from : goal.overflow_add-from
overflow_add-from c = omega arith

pub row_times-requires : goal.row_times-requires
row_times-requires c = let p = c.requires in (p.0, omega (arith, p.1, p.2), p.3)

pub overflow_add-out : goal.overflow_add-out
overflow_add-out c = omega (arith, c.requires.4)

pub offset_bounds-out-o : goal.offset_bounds-out-o
offset_bounds-out-o c = omega arith

pub bounds-out-o : goal.bounds-out-o
bounds-out-o c = omega (arith, c.loop-j.invariant.1, c.requires.4)

pub overflow_step-j : goal.overflow_step-j
overflow_step-j c = omega arith

pub loop-j-smaller : goal.loop-j-smaller
loop-j-smaller c = omega arith

pub loop-j-preserved : goal.loop-j-preserved
loop-j-preserved c = let l = c.loop-j in (omega arith, simp length-set l.invariant.1, written-more _ _ _ _ _ _ _ (omega (arith, l.invariant.1, c.requires.4)) c.row_times.ensures l.invariant.2)

pub shape_of-out : goal.shape_of-out
shape_of-out c = c.loop-j.invariant.1

pub returns : goal.returns
returns c = let l = c.loop-j in let e : l.j ≡ c.args.c = omega arith in rw e at l.invariant.2
