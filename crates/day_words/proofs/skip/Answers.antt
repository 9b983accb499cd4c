-- `skip`: what is left has the same words.
use mathlib.Core.Path.{◌≡◌, refl, sym, ◌∙◌}
use native.Mathlib.Omega.{arith}
use lib.ListN.{length}
use Rattle.day_words.proofs.Words.{skip-last, skip-here, skip-later}
use Rattle.day_words.proofs.skip.Goals as goal

pub loop-i-init : goal.loop-i-init
loop-i-init c = refl

pub returns-then-not-is_blank : goal.returns-then-not-is_blank
returns-then-not-is_blank c = let l = c.loop-i in (skip-here _ l.i (omega arith) (sym c.is_blank.ensures ∙ c.if-not-is_blank.true) ∙ sym l.invariant, omega arith)

pub loop-i-preserved : goal.loop-i-preserved
loop-i-preserved c = let l = c.loop-i in l.invariant ∙ (skip-later _ l.i (omega arith) (sym c.is_blank.ensures ∙ c.if-not-is_blank.false))

pub returns : goal.returns
returns c = let l = c.loop-i in
    let e : l.i ≡ length c.args.line.now = omega arith in
    (rw (← e) (skip-last _ l.i (omega arith) ∙ sym l.invariant), omega arith)
