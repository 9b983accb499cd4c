-- `forget_values`: after j turns j values are not known.
use mathlib.Core.Path.{refl}
use native.Mathlib.Omega.{arith}
use lib.ListN.{length-set}
use lib.Ieee.{nan}
use Rattle.workspace.proofs.Writes.{written_none, written-more}
use Rattle.search_call.proofs.Posing.{lit-nan, forgotten}
use Rattle.search_call.proofs.begin.forget_values.Goals as goal

pub overflow_add-j-end : goal.overflow_add-j-end
overflow_add-j-end c = omega arith

pub loop-j-init : goal.loop-j-init
loop-j-init c = (omega arith, omega arith, refl, written_none nan _ _ _)

pub overflow_add-f : goal.overflow_add-f
overflow_add-f c = omega arith

pub offset_bounds-f-j : goal.offset_bounds-f-j
offset_bounds-f-j c = omega arith

pub bounds-f-j : goal.bounds-f-j
bounds-f-j c = omega arith

pub overflow_step-j : goal.overflow_step-j
overflow_step-j c = omega arith

pub loop-j-smaller : goal.loop-j-smaller
loop-j-smaller c = omega arith

pub loop-j-preserved : goal.loop-j-preserved
loop-j-preserved c = let l = c.loop-j in (omega arith, omega arith, simp length-set l.invariant.2, written-more nan _ _ _ _ _ _ (omega arith) lit-nan l.invariant.3)

pub shape_of-f : goal.shape_of-f
shape_of-f c = c.loop-j.invariant.2

pub returns : goal.returns
returns c = let a = c.args in let l = c.loop-j in forgotten a.m l.j a.f.now l.f l.invariant.2 (omega arith) (omega arith) l.invariant.3
