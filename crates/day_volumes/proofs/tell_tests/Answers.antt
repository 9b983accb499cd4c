-- `tell_tests`: the tests of the day, and both tables.
use mathlib.Core.Path.{ap, ◌∙◌}
use native.Mathlib.Omega.{arith}
use lib.ListN.{length}
use lib.Seq.{length-take-le}
use Rattle.day_volumes.proofs.Laid.{figures-length, signs-length}
use Rattle.day_volumes.proofs.tell_tests.Goals as goal

pub put_figures-requires : goal.put_figures-requires
put_figures-requires c = let p = c.requires in
    let d = c.args.day.now in
    (record { n16 = d.few_values; m16 = d.few_balances; q16 = p.0 }, p.1.lf, d.value, p.3, c.test_day-d.auto.tests ∙ length-take-le _ _ (omega (arith, d.few_values, c.number_room-numbers.ensures)), ap length p.4.bf ∙ figures-length)

pub put_tests-requires : goal.put_tests-requires
put_tests-requires c = let p = c.requires in
    let d = c.args.day.now in
    (d.few_values, c.test_day-d.auto.marks ∙ length-take-le _ _ (omega (arith, d.few_values, c.word_room-words.ensures)), ap length p.4.bs ∙ signs-length)
