-- `is_name_byte`: printable, and not `=`.
use native.Mathlib.Omega.{arith}
use Rattle.sheet_words.proofs.Laws.{name-byte-equals, name-byte-high, name-byte-low}
use Rattle.sheet_words.proofs.is_name_byte.Goals as goal

pub returns-then-c-eq61 : goal.returns-then-c-eq61
returns-then-c-eq61 c = name-byte-equals c.args.c c.if-c-eq61.true

pub returns-then-c-ge33 : goal.returns-then-c-ge33
returns-then-c-ge33 c = name-byte-high c.args.c c.if-c-eq61.false c.if-c-ge33.true

pub returns : goal.returns
returns c = name-byte-low c.args.c c.if-c-eq61.false (omega (arith, c.if-c-ge33.false))
