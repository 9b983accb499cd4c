-- `trimmed`: by the last byte.
use native.Mathlib.Omega.{arith}
use Rattle.day_words.proofs.Words.{trim-none, trim-one, trim-not}
use Rattle.day_words.proofs.trimmed.Goals as goal

pub returns-then-n-eq0 : goal.returns-then-n-eq0
returns-then-n-eq0 c = (trim-none _ c.if-n-eq0.true, omega arith)

pub overflow_sub-n : goal.overflow_sub-n
overflow_sub-n c = omega (arith, c.if-n-eq0.false)

pub bounds-line-n : goal.bounds-line-n
bounds-line-n c = omega (arith, c.if-n-eq0.false)

pub overflow_sub-result : goal.overflow_sub-result
overflow_sub-result c = omega (arith, c.if-n-eq0.false)

pub returns-then-line-n-eq13 : goal.returns-then-line-n-eq13
returns-then-line-n-eq13 c = (trim-one _ c.if-line-n-eq13.true, omega arith)

pub returns : goal.returns
returns c = (trim-not _ c.if-line-n-eq13.false, omega arith)
