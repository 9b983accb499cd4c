use Rattle.certain.proofs.Laws.{day-1, day-2, day-3, day-4}
use Rattle.interval.proofs.Answers.{not-true, not-false}
use native.Mathlib.Omega.{arith}
use Rattle.certain.proofs.test.day_finite.Goals as goal

pub all_finite-requires : goal.all_finite-requires
all_finite-requires c = c.requires.0

pub returns-then-not-all_finite : goal.returns-then-not-all_finite
returns-then-not-all_finite c = day-1 _ _ _ _ _ _ _ _ c.all_finite.ensures (not-true _ c.if-not-all_finite.true-raw)

pub overflow_mul-m : goal.overflow_mul-m
overflow_mul-m c = omega (arith, c.requires.1)

pub all_finite-requires-2 : goal.all_finite-requires-2
all_finite-requires-2 c = c.requires.1

pub returns-then-not-all_finite-2 : goal.returns-then-not-all_finite-2
returns-then-not-all_finite-2 c = day-2 _ _ _ _ _ _ _ _ _ c.all_finite.ensures (not-false _ c.if-not-all_finite.false-raw) c.all_finite-2.ensures (not-true _ c.if-not-all_finite-2.true-raw)

pub overflow_mul-p : goal.overflow_mul-p
overflow_mul-p c = omega (arith, c.requires.2)

pub all_finite-requires-3 : goal.all_finite-requires-3
all_finite-requires-3 c = c.requires.2

pub returns-then-not-all_finite-3 : goal.returns-then-not-all_finite-3
returns-then-not-all_finite-3 c = day-3 _ _ _ _ _ _ _ _ _ _ c.all_finite.ensures (not-false _ c.if-not-all_finite.false-raw) c.all_finite-2.ensures (not-false _ c.if-not-all_finite-2.false-raw) c.all_finite-3.ensures (not-true _ c.if-not-all_finite-3.true-raw)

pub all_finite-requires-4 : goal.all_finite-requires-4
all_finite-requires-4 c = c.requires.3

pub returns : goal.returns
returns c = day-4 _ _ _ _ _ _ _ _ _ _ _ c.all_finite.ensures (not-false _ c.if-not-all_finite.false-raw) c.all_finite-2.ensures (not-false _ c.if-not-all_finite-2.false-raw) c.all_finite-3.ensures (not-false _ c.if-not-all_finite-3.false-raw) c.all_finite-4.ensures
