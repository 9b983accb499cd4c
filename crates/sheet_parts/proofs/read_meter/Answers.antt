-- `read_meter`: word by word.
use native.Mathlib.Omega.{arith}
use mathlib.Core.Path.{ap}
use lib.ListN.{length, drop}
use Rattle.day_words.proofs.Words.{word_size}
use Rattle.sheet_words.specs.Lines.{between}
use lib.Ieee.{of_bits}
use Rattle.sheet_words.proofs.Laws.{found-in}
use Rattle.sheet_parts.proofs.Laws.{item-wrong, meter-old, meter-new, meter-spread, meter-end, meter-is}
use Rattle.sheet_parts.proofs.read_meter.Goals as goal

pub returns-in_default : goal.returns-in_default
returns-in_default c = record { result_value = item-wrong c.args.line.now c.new.result _ c.find_word-u.result c.new.ensures _ (meter-old (drop c.args.from c.args.line.now) (between c.find_word-u.result.start c.find_word-u.result.end c.args.line.now) (drop c.find_word-u.result.end c.args.line.now) c.find_word-u.ensures.text c.find_word-u.ensures.left c.reading_of.result c.reading_of.ensures c.in_default.is); item_inside = found-in c.args.line.now c.new.result _ c.find_word-u.result c.new.ensures (c.find_word-u.ensures.low, c.find_word-u.ensures.high) }

pub returns-in_default-reading_of : goal.returns-in_default-reading_of
returns-in_default-reading_of c = record { result_value = item-wrong c.args.line.now c.new-in_default-reading_of.result _ c.find_word-v.result c.new-in_default-reading_of.ensures _ (meter-new (drop c.args.from c.args.line.now) (between c.find_word-u.result.start c.find_word-u.result.end c.args.line.now) (drop c.find_word-u.result.end c.args.line.now) c.find_word-u.ensures.text c.find_word-u.ensures.left c.reading_of.result c.reading_of.ensures _ c.in-Some.is (between c.find_word-v.result.start c.find_word-v.result.end c.args.line.now) (drop c.find_word-v.result.end c.args.line.now) c.find_word-v.ensures.text c.find_word-v.ensures.left c.reading_of-2.result c.reading_of-2.ensures c.in_default-reading_of.is); item_inside = found-in c.args.line.now c.new-in_default-reading_of.result _ c.find_word-v.result c.new-in_default-reading_of.ensures (c.find_word-v.ensures.low, c.find_word-v.ensures.high) }

pub returns-in_default-above_zero : goal.returns-in_default-above_zero
returns-in_default-above_zero c = record { result_value = item-wrong c.args.line.now c.new-in_default-above_zero.result _ c.find_word-w.result c.new-in_default-above_zero.ensures _ (meter-spread (drop c.args.from c.args.line.now) (between c.find_word-u.result.start c.find_word-u.result.end c.args.line.now) (drop c.find_word-u.result.end c.args.line.now) c.find_word-u.ensures.text c.find_word-u.ensures.left c.reading_of.result c.reading_of.ensures _ c.in-Some.is (between c.find_word-v.result.start c.find_word-v.result.end c.args.line.now) (drop c.find_word-v.result.end c.args.line.now) c.find_word-v.ensures.text c.find_word-v.ensures.left c.reading_of-2.result c.reading_of-2.ensures _ c.in-Some-reading_of.is (between c.find_word-w.result.start c.find_word-w.result.end c.args.line.now) (drop c.find_word-w.result.end c.args.line.now) c.find_word-w.ensures.text c.find_word-w.ensures.left c.above_zero.result c.above_zero.ensures c.in_default-above_zero.is); item_inside = found-in c.args.line.now c.new-in_default-above_zero.result _ c.find_word-w.result c.new-in_default-above_zero.ensures (c.find_word-w.ensures.low, c.find_word-w.ensures.high) }

pub returns-then-x : goal.returns-then-x
returns-then-x c = record { result_value = item-wrong c.args.line.now c.new-then-x.result _ c.find_word-x.result c.new-then-x.ensures _ (meter-end (drop c.args.from c.args.line.now) (between c.find_word-u.result.start c.find_word-u.result.end c.args.line.now) (drop c.find_word-u.result.end c.args.line.now) c.find_word-u.ensures.text c.find_word-u.ensures.left c.reading_of.result c.reading_of.ensures _ c.in-Some.is (between c.find_word-v.result.start c.find_word-v.result.end c.args.line.now) (drop c.find_word-v.result.end c.args.line.now) c.find_word-v.ensures.text c.find_word-v.ensures.left c.reading_of-2.result c.reading_of-2.ensures _ c.in-Some-reading_of.is (between c.find_word-w.result.start c.find_word-w.result.end c.args.line.now) (drop c.find_word-w.result.end c.args.line.now) c.find_word-w.ensures.text c.find_word-w.ensures.left c.above_zero.result c.above_zero.ensures _ c.in-Some-above_zero.is (between c.find_word-x.result.start c.find_word-x.result.end c.args.line.now) c.find_word-x.ensures.text (omega (arith, ap length c.find_word-x.ensures.text, word_size c.args.line.now c.find_word-w.result.end c.find_word-x.result c.find_word-x.ensures, c.find_word-x.ensures.low, c.if-x.true))); item_inside = found-in c.args.line.now c.new-then-x.result _ c.find_word-x.result c.new-then-x.ensures (c.find_word-x.ensures.low, c.find_word-x.ensures.high) }

pub returns : goal.returns
unfolding of_bits
returns c = record { result_value = meter-is (drop c.args.from c.args.line.now) (between c.find_word-u.result.start c.find_word-u.result.end c.args.line.now) (drop c.find_word-u.result.end c.args.line.now) c.find_word-u.ensures.text c.find_word-u.ensures.left c.reading_of.result c.reading_of.ensures _ c.in-Some.is (between c.find_word-v.result.start c.find_word-v.result.end c.args.line.now) (drop c.find_word-v.result.end c.args.line.now) c.find_word-v.ensures.text c.find_word-v.ensures.left c.reading_of-2.result c.reading_of-2.ensures _ c.in-Some-reading_of.is (between c.find_word-w.result.start c.find_word-w.result.end c.args.line.now) (drop c.find_word-w.result.end c.args.line.now) c.find_word-w.ensures.text c.find_word-w.ensures.left c.above_zero.result c.above_zero.ensures _ c.in-Some-above_zero.is (between c.find_word-x.result.start c.find_word-x.result.end c.args.line.now) c.find_word-x.ensures.text (omega (arith, ap length c.find_word-x.ensures.text, word_size c.args.line.now c.find_word-w.result.end c.find_word-x.result c.find_word-x.ensures, c.if-x.false)); item_inside = tt }
