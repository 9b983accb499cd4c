-- `has_equals`: the library looks for the byte.
use mathlib.Core.Path.{◌∙◌}
use Rattle.sheet_words.proofs.Laws.{any_equals}
use Rattle.sheet_words.proofs.has_equals.Goals as goal

pub returns : goal.returns
returns c = c.contains.ensures.value ∙ any_equals c.args.word.now
