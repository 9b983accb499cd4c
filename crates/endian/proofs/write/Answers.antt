-- `write`: before turn i the bytes from i on are still to come.
use mathlib.Core.Path.{sym, ◌∙◌}
use native.Mathlib.Omega.{arith}
use Rattle.endian.proofs.Turns.{write-none, write-more, write-end}
use Rattle.endian.proofs.write.Goals as goal

pub loop-i-init : goal.loop-i-init
loop-i-init c = write-none c.args.k c.args.at c.args.x c.args.s.now

pub loop-i-preserved : goal.loop-i-preserved
loop-i-preserved c = let l = c.loop-i in
    let a = c.args in
    write-more a.k a.at l.i l.rest l.s (omega arith) (omega (arith, l.auto.s)) ∙ l.invariant

pub returns : goal.returns
returns c = let l = c.loop-i in
    let a = c.args in
    sym (write-end a.k a.at l.i l.rest l.s (omega arith)) ∙ l.invariant
