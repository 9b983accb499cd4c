-- `factor`: after i turns L has its first i rows.
use mathlib.Core.Path.{refl}
use native.Mathlib.Omega.{arith}
use borrow.Author.Tests.{not-true, not-false}
use Rattle.hessian.proofs.Turns.{rows_start, rows_more, rows-bad, rows-good}
use Rattle.hessian.proofs.factor.Goals as goal

pub overflow_mul-n : goal.overflow_mul-n
overflow_mul-n c = omega arith

pub wipe-requires : goal.wipe-requires
wipe-requires c = omega arith

pub loop-i-init : goal.loop-i-init
loop-i-init c = let a = c.args in (omega arith, rows_start a.n a.b.now a.l.now _ (omega arith) c.wipe.ensures, omega arith)

pub next_row-requires : goal.next_row-requires
next_row-requires c = (omega arith, omega arith, omega arith)

pub shape_of-l-then-not-next_row : goal.shape_of-l-then-not-next_row
shape_of-l-then-not-next_row c = omega arith

pub returns-then-not-next_row : goal.returns-then-not-next_row
returns-then-not-next_row c = let a = c.args in
    let l = c.loop-i in
    let k = c.next_row in
    record { made = rows-bad a.n a.b.now l.i l.l k.new.l k.result (omega arith) l.invariant.1 k.ensures (not-true _ c.if-not-next_row.true-raw); why = refl }

pub overflow_step-i : goal.overflow_step-i
overflow_step-i c = omega arith

pub loop-i-smaller : goal.loop-i-smaller
loop-i-smaller c = omega arith

pub loop-i-preserved : goal.loop-i-preserved
loop-i-preserved c = let a = c.args in
    let l = c.loop-i in
    let k = c.next_row in
    (omega arith, rows_more a.n a.b.now l.i l.l k.new.l k.result l.invariant.1 k.ensures (not-false _ c.if-not-next_row.false-raw), omega arith)

pub shape_of-l : goal.shape_of-l
shape_of-l c = omega arith

pub returns : goal.returns
returns c = let a = c.args in record { made = rows-good a.n a.b.now _ _ (omega arith) c.loop-i.invariant.1; why = tt }
