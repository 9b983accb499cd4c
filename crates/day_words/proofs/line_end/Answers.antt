-- `line_end`: the rest of the line ends where the whole does.
use mathlib.Core.Path.{◌≡◌, refl, sym, ◌∙◌}
use native.Mathlib.Omega.{arith}
use lib.ListN.{length}
use borrow.Author.Tests.{eq-eqb, ne_eqb}
use Rattle.day_words.specs.Words.{is_feed}
use Rattle.day_words.proofs.Words.{ends_last, ends-here, ends-later}
use Rattle.day_words.proofs.line_end.Goals as goal

pub loop-i-init : goal.loop-i-init
loop-i-init c = refl

pub returns-then-bytes-i-eq10 : goal.returns-then-bytes-i-eq10
returns-then-bytes-i-eq10 c = let l = c.loop-i in (ends-here is_feed _ l.i (omega arith) (eq-eqb _ 10 c.if-bytes-i-eq10.true) ∙ sym l.invariant, omega arith)

pub loop-i-preserved : goal.loop-i-preserved
loop-i-preserved c = let l = c.loop-i in l.invariant ∙ (ends-later is_feed _ l.i (omega arith) (ne_eqb _ 10 c.if-bytes-i-eq10.false))

pub returns : goal.returns
returns c = let l = c.loop-i in
    let e : l.i ≡ length c.args.bytes.now = omega arith in
    (rw (← e) (ends_last is_feed _ l.i (omega arith) ∙ sym l.invariant), omega arith)
