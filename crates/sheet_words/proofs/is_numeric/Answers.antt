-- `is_numeric`: a digit, a sign or a point.
use native.Mathlib.Omega.{arith}
use Rattle.sheet_words.proofs.Laws.{numeric-minus, numeric-plus, numeric-point, numeric-high, numeric-low}
use Rattle.sheet_words.proofs.is_numeric.Goals as goal

pub returns-then-c-eq45 : goal.returns-then-c-eq45
returns-then-c-eq45 c = numeric-minus c.args.c c.if-c-eq45.true

pub returns-then-c-eq43 : goal.returns-then-c-eq43
returns-then-c-eq43 c = numeric-plus c.args.c c.if-c-eq43.true

pub returns-then-c-eq46 : goal.returns-then-c-eq46
returns-then-c-eq46 c = numeric-point c.args.c c.if-c-eq46.true

pub returns-then-c-ge48 : goal.returns-then-c-ge48
returns-then-c-ge48 c = numeric-high c.args.c c.if-c-eq45.false c.if-c-eq43.false c.if-c-eq46.false c.if-c-ge48.true

pub returns : goal.returns
returns c = numeric-low c.args.c c.if-c-eq45.false c.if-c-eq43.false c.if-c-eq46.false (omega (arith, c.if-c-ge48.false))
