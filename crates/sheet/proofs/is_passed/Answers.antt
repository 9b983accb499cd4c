-- `is_passed`: no word, or its first byte.
use native.Mathlib.Omega.{arith}
use Rattle.sheet.proofs.Lines.{passed_none, passed-some}
use Rattle.sheet.proofs.is_passed.Goals as goal

pub returns-then-word-eq0 : goal.returns-then-word-eq0
returns-then-word-eq0 c = passed_none c.args.word.now c.if-word-eq0.true

pub bounds-word-0 : goal.bounds-word-0
bounds-word-0 c = omega (arith, c.if-word-eq0.false)

pub returns : goal.returns
returns c = passed-some c.args.word.now c.if-word-eq0.false
