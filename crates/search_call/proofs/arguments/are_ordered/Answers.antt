-- `are_ordered`: after i turns the first i bounds are in order.
use mathlib.Core.Path.{sym}
use native.Mathlib.Omega.{arith}
use Rattle.search_call.proofs.Orders.{ordered-none, ordered-more, ordered-bad, ordered-all}
use Rattle.search_call.proofs.arguments.are_ordered.Goals as goal

pub loop-i-init : goal.loop-i-init
loop-i-init c = (omega arith, ordered-none _ _)

pub offset_bounds-upper-i : goal.offset_bounds-upper-i
offset_bounds-upper-i c = omega arith

pub bounds-upper-i : goal.bounds-upper-i
bounds-upper-i c = omega arith

pub offset_bounds-lower-i : goal.offset_bounds-lower-i
offset_bounds-lower-i c = omega arith

pub bounds-lower-i : goal.bounds-lower-i
bounds-lower-i c = omega arith

pub returns-then-upper-i : goal.returns-then-upper-i
returns-then-upper-i c = let a = c.args in sym (ordered-bad a.lower.now a.upper.now a.n c.loop-i.i (omega arith) c.if-upper-i.true)

pub overflow_step-i : goal.overflow_step-i
overflow_step-i c = omega arith

pub loop-i-smaller : goal.loop-i-smaller
loop-i-smaller c = omega arith

pub loop-i-preserved : goal.loop-i-preserved
loop-i-preserved c = let a = c.args in let l = c.loop-i in (omega arith, ordered-more a.lower.now a.upper.now l.i c.if-upper-i.false l.invariant.1)

pub returns : goal.returns
returns c = let a = c.args in let l = c.loop-i in ordered-all a.lower.now a.upper.now a.n l.i (omega arith) (omega arith) l.invariant.1
