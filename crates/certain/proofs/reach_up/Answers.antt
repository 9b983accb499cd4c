use Rattle.certain.proofs.Laws.{reach-1, reach-2, reach-3, reach-4, reach-5}
use Rattle.interval.proofs.Answers.{not-true, not-false}
use Rattle.certain.proofs.reach_up.Goals as goal

pub all_positive-requires : goal.all_positive-requires
all_positive-requires c = c.requires.0.spreads_long

pub returns-then-not-all_positive : goal.returns-then-not-all_positive
returns-then-not-all_positive c = reach-1 _ _ _ _ _ _ _ _ _ _ _ _ c.all_positive.ensures (not-true _ c.if-not-all_positive.true-raw)

pub none_negative-requires : goal.none_negative-requires
none_negative-requires c = c.requires.1.z_long

pub returns-then-not-none_negative : goal.returns-then-not-none_negative
returns-then-not-none_negative c = reach-2 _ _ _ _ _ _ _ _ _ _ _ _ _ c.all_positive.ensures (not-false _ c.if-not-all_positive.false-raw) c.none_negative.ensures (not-true _ c.if-not-none_negative.true-raw)

pub day_finite-requires : goal.day_finite-requires
day_finite-requires c = (c.requires.0.values_long, c.requires.1.balances_long, c.requires.1.limits_long, c.requires.2)

pub returns-then-not-day_finite : goal.returns-then-not-day_finite
returns-then-not-day_finite c = reach-3 _ _ _ _ _ _ _ _ _ _ _ _ _ _ c.all_positive.ensures (not-false _ c.if-not-all_positive.false-raw) c.none_negative.ensures (not-false _ c.if-not-none_negative.false-raw) c.day_finite.ensures (not-true _ c.if-not-day_finite.true-raw)

pub report_finite-requires : goal.report_finite-requires
report_finite-requires c = (c.requires.0.x_long, c.requires.1.y_long, c.requires.1.z_long)

pub returns-then-not-report_finite : goal.returns-then-not-report_finite
returns-then-not-report_finite c = reach-4 _ _ _ _ _ _ _ _ _ _ _ _ _ _ _ c.all_positive.ensures (not-false _ c.if-not-all_positive.false-raw) c.none_negative.ensures (not-false _ c.if-not-none_negative.false-raw) c.day_finite.ensures (not-false _ c.if-not-day_finite.false-raw) c.report_finite.ensures (not-true _ c.if-not-report_finite.true-raw)

pub fit_up-squares-requires : goal.fit_up-squares-requires
fit_up-squares-requires c = (c.requires.0, c.requires.1)

pub open_up-opened-requires : goal.open_up-opened-requires
open_up-opened-requires c = (c.requires.1.balances_long, c.requires.0.x_long, c.requires.1.y_long)

pub slack_up-slack-requires : goal.slack_up-slack-requires
slack_up-slack-requires c = (c.requires.1.limits_long, c.requires.2, c.requires.0.x_long, c.requires.1.z_long)

pub returns : goal.returns
returns c = reach-5 _ _ _ _ _ _ _ _ _ _ _ _ _ _ _ c.fit_up-squares.result c.open_up-opened.result c.slack_up-slack.result _ c.all_positive.ensures (not-false _ c.if-not-all_positive.false-raw) c.none_negative.ensures (not-false _ c.if-not-none_negative.false-raw) c.day_finite.ensures (not-false _ c.if-not-day_finite.false-raw) c.report_finite.ensures (not-false _ c.if-not-report_finite.false-raw) c.fourfold.ensures c.fit_up-squares.ensures c.open_up-opened.ensures c.slack_up-slack.ensures
