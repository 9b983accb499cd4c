-- `kinds_into`: after j turns j kinds are written.
use mathlib.Core.Path.{refl}
use native.Mathlib.Omega.{arith}
use lib.ListN.{length-set}
use Rattle.workspace.proofs.Writes.{written_none, written-more}
use Rattle.search_call.proofs.Posing.{kinds-laid}
use Rattle.search_call.proofs.begin.kinds_into.Goals as goal

pub loop-j-init : goal.loop-j-init
loop-j-init c = (omega arith, refl, written_none 0 _ _ _)

pub bounds-kinds-j : goal.bounds-kinds-j
bounds-kinds-j c = omega arith

pub word_of-requires : goal.word_of-requires
word_of-requires c = tt

pub overflow_add-u : goal.overflow_add-u
overflow_add-u c = omega arith

pub offset_bounds-u-j : goal.offset_bounds-u-j
offset_bounds-u-j c = omega arith

pub bounds-u-j : goal.bounds-u-j
bounds-u-j c = omega arith

pub overflow_step-j : goal.overflow_step-j
overflow_step-j c = omega arith

pub loop-j-smaller : goal.loop-j-smaller
loop-j-smaller c = omega arith

pub loop-j-preserved : goal.loop-j-preserved
loop-j-preserved c = let l = c.loop-j in (omega arith, simp length-set l.invariant.1, written-more 0 _ _ _ _ _ _ (omega arith) c.word_of.ensures l.invariant.2)

pub shape_of-u : goal.shape_of-u
shape_of-u c = c.loop-j.invariant.1

pub returns : goal.returns
returns c = let a = c.args in let l = c.loop-j in kinds-laid a.m l.j a.kinds.now a.u.now l.u (omega arith) l.invariant.1 (omega arith) (omega arith) (omega arith) l.invariant.2
