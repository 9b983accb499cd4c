-- `sound_size`: up to a foreign byte, and 72.
use native.Mathlib.Omega.{arith}
use mathlib.Core.Path.{◌≡◌, sym, ◌∙◌}
use lib.ListN.{length}
use Rattle.day_words.proofs.Words.{ends-here, ends-later, ends_last}
use Rattle.sheet_parts.specs.Texts.{is_foreign}
use Rattle.sheet_parts.proofs.Texts.{sound-cut, sound-all}
use Rattle.sheet_parts.proofs.sound_size.Goals as goal

pub loop-i-init : goal.loop-i-init
loop-i-init c = (omega arith, omega arith)

pub returns-then-i-eq72 : goal.returns-then-i-eq72
returns-then-i-eq72 c = let l = c.loop-i in (sound-cut c.args.text.now (omega (arith, l.invariant.1, c.if-i-eq72.true)), omega (arith, c.if-i-eq72.true), omega arith)

pub returns-then-is_foreign : goal.returns-then-is_foreign
returns-then-is_foreign c = let l = c.loop-i in (sound-all c.args.text.now l.i (ends-here is_foreign c.args.text.now l.i (omega arith) (sym c.is_foreign.ensures ∙ c.if-is_foreign.true) ∙ l.invariant.1) l.invariant.0, omega arith, l.invariant.0)

pub loop-i-preserved : goal.loop-i-preserved
loop-i-preserved c = let l = c.loop-i in (omega (arith, l.invariant.0, c.if-i-eq72.false), sym (ends-later is_foreign c.args.text.now l.i (omega arith) (sym c.is_foreign.ensures ∙ c.if-is_foreign.false)) ∙ l.invariant.1)

pub returns : goal.returns
returns c = let l = c.loop-i in
    let e : l.i ≡ length c.args.text.now = omega arith in
    (rw (← e) (sound-all c.args.text.now l.i (ends_last is_foreign c.args.text.now l.i (omega arith) ∙ l.invariant.1) l.invariant.0), omega arith, omega (arith, l.invariant.0))
