-- `is_capital`: from 65 to 90.
use native.Mathlib.Omega.{arith}
use Rattle.sheet_words.proofs.Laws.{capital-low, capital-high}
use Rattle.sheet_words.proofs.is_capital.Goals as goal

pub returns-then-c-ge65 : goal.returns-then-c-ge65
returns-then-c-ge65 c = capital-high _ c.if-c-ge65.true

pub returns : goal.returns
returns c = capital-low c.args.c (omega (arith, c.if-c-ge65.false))
