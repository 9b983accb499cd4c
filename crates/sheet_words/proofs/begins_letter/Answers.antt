-- `begins_letter`: by its first byte.
use native.Mathlib.Omega.{arith}
use mathlib.Core.Path.{◌∙◌}
use Rattle.sheet_words.proofs.Laws.{letter-none, letter-some}
use Rattle.sheet_words.proofs.begins_letter.Goals as goal

pub returns-then-word-eq0 : goal.returns-then-word-eq0
returns-then-word-eq0 c = letter-none c.args.word.now c.if-word-eq0.true

pub bounds-word-0 : goal.bounds-word-0
bounds-word-0 c = omega (arith, c.if-word-eq0.false)

pub is_letter-requires : goal.is_letter-requires
is_letter-requires c = tt

pub returns : goal.returns
returns c = c.is_letter.ensures ∙ letter-some c.args.word.now c.if-word-eq0.false
