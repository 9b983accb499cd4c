-- `number_of`: the whole word.
use mathlib.Core.Path.{◌∙◌}
use Rattle.day_words.proofs.Items.{number-not, number-part, number-whole}
use Rattle.day_words.proofs.number_of.Goals as goal

pub returns-in_err-decimal : goal.returns-in_err-decimal
returns-in_err-decimal c = c.from_residual.ensures ∙ number-not _ c.read.result c.read.ensures c.in_err-decimal.ensures.value

pub returns-then-decimal-word : goal.returns-then-decimal-word
returns-then-decimal-word c = number-part _ c.read.result c.read.ensures c.in_ok-decimal.decimal c.in_ok-decimal.ensures.value c.if-decimal-word.true

pub returns : goal.returns
returns c = number-whole _ c.read.result c.read.ensures c.in_ok-decimal.decimal c.in_ok-decimal.ensures.value c.if-decimal-word.false
