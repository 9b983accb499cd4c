-- `before_remark`: what is kept of the text so far, and of the rest, is what is kept of all.
use mathlib.Core.Path.{◌≡◌}
use native.Mathlib.Omega.{arith}
use lib.ListN.{length}
use Rattle.sheet_words.proofs.Laws.{remark-last, remark-here, remark-later}
use Rattle.sheet_words.proofs.before_remark.Goals as goal

pub loop-i-init : goal.loop-i-init
loop-i-init c = omega arith

pub returns-then-begins_remark : goal.returns-then-begins_remark
returns-then-begins_remark c = let l = c.loop-i in (remark-here _ l.i l.free l.invariant (omega arith) c.begins_remark.result c.begins_remark.ensures c.if-begins_remark.true, omega arith)

pub loop-i-preserved : goal.loop-i-preserved
loop-i-preserved c = let l = c.loop-i in remark-later _ l.i l.free l.invariant (omega arith) c.begins_remark.result c.begins_remark.ensures c.if-begins_remark.false c.is_blank-free.result c.is_blank-free.ensures

pub returns : goal.returns
returns c = let l = c.loop-i in
    let e : l.i ≡ length c.args.text.now = omega arith in
    (rw (← e) (remark-last _ l.i l.free l.invariant (omega arith)), omega arith)
