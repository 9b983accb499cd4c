use Rattle.certain.proofs.Laws.{report-1, report-2, report-3}
use Rattle.interval.proofs.Answers.{not-true, not-false}
use Rattle.certain.proofs.test.report_finite.Goals as goal

pub all_finite-requires : goal.all_finite-requires
all_finite-requires c = c.requires.0

pub returns-then-not-all_finite : goal.returns-then-not-all_finite
returns-then-not-all_finite c = report-1 _ _ _ _ _ _ _ c.all_finite.ensures (not-true _ c.if-not-all_finite.true-raw)

pub all_finite-requires-2 : goal.all_finite-requires-2
all_finite-requires-2 c = c.requires.1

pub returns-then-not-all_finite-2 : goal.returns-then-not-all_finite-2
returns-then-not-all_finite-2 c = report-2 _ _ _ _ _ _ _ _ c.all_finite.ensures (not-false _ c.if-not-all_finite.false-raw) c.all_finite-2.ensures (not-true _ c.if-not-all_finite-2.true-raw)

pub all_finite-requires-3 : goal.all_finite-requires-3
all_finite-requires-3 c = c.requires.2

pub returns : goal.returns
returns c = report-3 _ _ _ _ _ _ _ _ _ c.all_finite.ensures (not-false _ c.if-not-all_finite.false-raw) c.all_finite-2.ensures (not-false _ c.if-not-all_finite-2.false-raw) c.all_finite-3.ensures
