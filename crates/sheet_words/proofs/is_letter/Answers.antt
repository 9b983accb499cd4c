-- `is_letter`: a capital, or from 97 to 122.
use native.Mathlib.Omega.{arith}
use Rattle.sheet_words.proofs.Laws.{letter-capital, letter-low, letter-high}
use Rattle.sheet_words.proofs.is_letter.Goals as goal

pub is_capital-requires : goal.is_capital-requires
is_capital-requires c = tt

pub returns-then-is_capital : goal.returns-then-is_capital
returns-then-is_capital c = letter-capital c.args.c c.is_capital.result c.is_capital.ensures c.if-is_capital.true

pub returns-then-c-ge97 : goal.returns-then-c-ge97
returns-then-c-ge97 c = letter-high c.args.c c.is_capital.result c.is_capital.ensures c.if-is_capital.false c.if-c-ge97.true

pub returns : goal.returns
returns c = letter-low c.args.c c.is_capital.result c.is_capital.ensures c.if-is_capital.false (omega (arith, c.if-c-ge97.false))
