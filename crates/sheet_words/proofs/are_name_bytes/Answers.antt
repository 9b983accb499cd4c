-- `are_name_bytes`: what is not tested yet gives the answer.
use native.Mathlib.Omega.{arith}
use mathlib.Core.Path.{refl, sym, ◌∙◌}
use Rattle.sheet_words.proofs.Laws.{name-bytes-last, name-bytes-not, name-bytes-later}
use Rattle.sheet_words.proofs.are_name_bytes.Goals as goal

pub loop-c-init : goal.loop-c-init
loop-c-init c = refl

pub returns-then-not-is_name_byte : goal.returns-then-not-is_name_byte
returns-then-not-is_name_byte c = let l = c.loop-c in name-bytes-not _ l.c-index (omega arith) (sym c.is_name_byte.ensures ∙ c.if-not-is_name_byte.true) ∙ sym l.invariant

pub loop-c-preserved : goal.loop-c-preserved
loop-c-preserved c = let l = c.loop-c in l.invariant ∙ (name-bytes-later _ l.c-index (omega arith) (sym c.is_name_byte.ensures ∙ c.if-not-is_name_byte.false))

pub returns : goal.returns
returns c = let l = c.loop-c in name-bytes-last _ l.c-index (omega arith) ∙ sym l.invariant
