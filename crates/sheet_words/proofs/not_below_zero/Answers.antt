-- `not_below_zero`: the decimal, and the test.
use mathlib.Core.Path.{◌∙◌}
use lib.Ieee.{of_bits}
use Rattle.sheet_words.proofs.Laws.{below_none, below-is, below-not}
use Rattle.sheet_words.proofs.not_below_zero.Goals as goal

pub returns-in_err-x : goal.returns-in_err-x
returns-in_err-x c = c.from_residual.ensures ∙ below_none _ c.number_of.result c.number_of.ensures c.in_err-x.was

pub returns-then-x : goal.returns-then-x
unfolding of_bits
returns-then-x c = below-is _ c.number_of.result c.number_of.ensures _ c.in_ok-x.was c.if-x.true

pub returns : goal.returns
unfolding of_bits
returns c = below-not _ c.number_of.result c.number_of.ensures _ c.in_ok-x.was c.if-x.false
