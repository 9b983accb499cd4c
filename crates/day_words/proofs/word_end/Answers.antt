-- `word_end`: the rest of the word ends where the whole does.
use mathlib.Core.Path.{◌≡◌, refl, sym, ◌∙◌}
use native.Mathlib.Omega.{arith}
use lib.ListN.{length}
use Rattle.day_words.specs.Words.{is_blank}
use Rattle.day_words.proofs.Words.{ends_last, ends-here, ends-later}
use Rattle.day_words.proofs.word_end.Goals as goal

pub loop-i-init : goal.loop-i-init
loop-i-init c = refl

pub returns-then-is_blank : goal.returns-then-is_blank
returns-then-is_blank c = let l = c.loop-i in (ends-here is_blank _ l.i (omega arith) (sym c.is_blank.ensures ∙ c.if-is_blank.true) ∙ sym l.invariant, omega arith)

pub loop-i-preserved : goal.loop-i-preserved
loop-i-preserved c = let l = c.loop-i in l.invariant ∙ (ends-later is_blank _ l.i (omega arith) (sym c.is_blank.ensures ∙ c.if-is_blank.false))

pub returns : goal.returns
returns c = let l = c.loop-i in
    let e : l.i ≡ length c.args.line.now = omega arith in
    (rw (← e) (ends_last is_blank _ l.i (omega arith) ∙ sym l.invariant), omega arith)
