-- `begins_number`: by its first byte.
use native.Mathlib.Omega.{arith}
use mathlib.Core.Path.{◌∙◌}
use Rattle.sheet_words.proofs.Laws.{number-none, number-some}
use Rattle.sheet_words.proofs.begins_number.Goals as goal

pub returns-then-word-eq0 : goal.returns-then-word-eq0
returns-then-word-eq0 c = number-none c.args.word.now c.if-word-eq0.true

pub bounds-word-0 : goal.bounds-word-0
bounds-word-0 c = omega (arith, c.if-word-eq0.false)

pub is_numeric-requires : goal.is_numeric-requires
is_numeric-requires c = tt

pub returns : goal.returns
returns c = c.is_numeric.ensures ∙ number-some c.args.word.now c.if-word-eq0.false
