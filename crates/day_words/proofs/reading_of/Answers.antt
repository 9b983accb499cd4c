-- `reading_of`: its length, and its digits.
use native.Mathlib.Omega.{arith}
use Rattle.day_words.proofs.Items.{reading-none, reading-long, reading-not, reading_fits, reading-is}
use Rattle.day_words.proofs.reading_of.Goals as goal

pub returns-then-n-eq0 : goal.returns-then-n-eq0
returns-then-n-eq0 c = reading-none _ c.if-n-eq0.true

pub returns-then-n-gt6 : goal.returns-then-n-gt6
returns-then-n-gt6 c = reading-long _ c.if-n-gt6.true

pub digits-run-requires : goal.digits-run-requires
digits-run-requires c = omega arith

pub returns-then-run-n : goal.returns-then-run-n
returns-then-run-n c = reading-not _ c.if-n-eq0.false c.if-n-gt6.false c.digits-run.result c.digits-run.ensures c.if-run-n.true

pub overflow_cast-result : goal.overflow_cast-result
overflow_cast-result c = omega (arith, reading_fits _ c.if-n-eq0.false c.if-n-gt6.false c.digits-run.result c.digits-run.ensures c.if-run-n.false)

pub returns : goal.returns
returns c = reading-is _ c.if-n-eq0.false c.if-n-gt6.false c.digits-run.result c.digits-run.ensures c.if-run-n.false
