-- `trim`: what is left of the text has the same text.
use native.Mathlib.Omega.{arith}
use mathlib.Core.Path.{◌≡◌, sym, ◌∙◌}
use Prim.Native.Nat.{◌+◌, ◌-◌}
use Rattle.sheet_parts.proofs.Texts.{trim-begin, trim-here, trim-later, trim-none}
use Rattle.sheet_parts.proofs.trim.Goals as goal

pub loop-i-init : goal.loop-i-init
loop-i-init c = trim-begin _

pub returns-then-not-is_blank : goal.returns-then-not-is_blank
returns-then-not-is_blank c = let l = c.loop-i in
    let e : l.i - 1 + 1 ≡ l.i = omega arith in
    (rw e (trim-here c.args.text.now l.i (omega arith) (omega arith) c.is_blank.result c.is_blank.ensures (c.if-not-is_blank.true) ∙ sym l.invariant), omega arith)

pub loop-i-preserved : goal.loop-i-preserved
loop-i-preserved c = let l = c.loop-i in l.invariant ∙ trim-later c.args.text.now l.i (omega arith) (omega arith) c.is_blank.result c.is_blank.ensures (c.if-not-is_blank.false)

pub returns : goal.returns
returns c = let l = c.loop-i in
    let e : l.i ≡ 0 = omega arith in
    (rw e at (trim-none c.args.text.now l.i (omega arith) ∙ sym l.invariant), omega arith)
