-- `read_stock`: word by word.
use native.Mathlib.Omega.{arith}
use mathlib.Core.Path.{ap}
use lib.ListN.{length, drop}
use Rattle.day_words.proofs.Words.{word_size}
use Rattle.sheet_words.specs.Lines.{between}
use lib.Ieee.{of_bits}
use Rattle.sheet_words.proofs.Laws.{found-in}
use Rattle.sheet_parts.proofs.Laws.{item-wrong, stock-before, stock-after, stock-spread, stock-end, stock-is}
use Rattle.sheet_parts.proofs.read_stock.Goals as goal

pub returns-in_default : goal.returns-in_default
returns-in_default c = record { result_value = item-wrong c.args.line.now c.new.result _ c.find_word-u.result c.new.ensures _ (stock-before (drop c.args.from c.args.line.now) (between c.find_word-u.result.start c.find_word-u.result.end c.args.line.now) (drop c.find_word-u.result.end c.args.line.now) c.find_word-u.ensures.text c.find_word-u.ensures.left c.number_of.result c.number_of.ensures c.in_default.is); item_inside = found-in c.args.line.now c.new.result _ c.find_word-u.result c.new.ensures (c.find_word-u.ensures.low, c.find_word-u.ensures.high) }

pub returns-in_default-number_of : goal.returns-in_default-number_of
returns-in_default-number_of c = record { result_value = item-wrong c.args.line.now c.new-in_default-number_of.result _ c.find_word-v.result c.new-in_default-number_of.ensures _ (stock-after (drop c.args.from c.args.line.now) (between c.find_word-u.result.start c.find_word-u.result.end c.args.line.now) (drop c.find_word-u.result.end c.args.line.now) c.find_word-u.ensures.text c.find_word-u.ensures.left c.number_of.result c.number_of.ensures _ c.in-Some.is (between c.find_word-v.result.start c.find_word-v.result.end c.args.line.now) (drop c.find_word-v.result.end c.args.line.now) c.find_word-v.ensures.text c.find_word-v.ensures.left c.number_of-2.result c.number_of-2.ensures c.in_default-number_of.is); item_inside = found-in c.args.line.now c.new-in_default-number_of.result _ c.find_word-v.result c.new-in_default-number_of.ensures (c.find_word-v.ensures.low, c.find_word-v.ensures.high) }

pub returns-in_default-above_zero : goal.returns-in_default-above_zero
returns-in_default-above_zero c = record { result_value = item-wrong c.args.line.now c.new-in_default-above_zero.result _ c.find_word-w.result c.new-in_default-above_zero.ensures _ (stock-spread (drop c.args.from c.args.line.now) (between c.find_word-u.result.start c.find_word-u.result.end c.args.line.now) (drop c.find_word-u.result.end c.args.line.now) c.find_word-u.ensures.text c.find_word-u.ensures.left c.number_of.result c.number_of.ensures _ c.in-Some.is (between c.find_word-v.result.start c.find_word-v.result.end c.args.line.now) (drop c.find_word-v.result.end c.args.line.now) c.find_word-v.ensures.text c.find_word-v.ensures.left c.number_of-2.result c.number_of-2.ensures _ c.in-Some-number_of.is (between c.find_word-w.result.start c.find_word-w.result.end c.args.line.now) (drop c.find_word-w.result.end c.args.line.now) c.find_word-w.ensures.text c.find_word-w.ensures.left c.above_zero.result c.above_zero.ensures c.in_default-above_zero.is); item_inside = found-in c.args.line.now c.new-in_default-above_zero.result _ c.find_word-w.result c.new-in_default-above_zero.ensures (c.find_word-w.ensures.low, c.find_word-w.ensures.high) }

pub returns-then-x : goal.returns-then-x
returns-then-x c = record { result_value = item-wrong c.args.line.now c.new-then-x.result _ c.find_word-x.result c.new-then-x.ensures _ (stock-end (drop c.args.from c.args.line.now) (between c.find_word-u.result.start c.find_word-u.result.end c.args.line.now) (drop c.find_word-u.result.end c.args.line.now) c.find_word-u.ensures.text c.find_word-u.ensures.left c.number_of.result c.number_of.ensures _ c.in-Some.is (between c.find_word-v.result.start c.find_word-v.result.end c.args.line.now) (drop c.find_word-v.result.end c.args.line.now) c.find_word-v.ensures.text c.find_word-v.ensures.left c.number_of-2.result c.number_of-2.ensures _ c.in-Some-number_of.is (between c.find_word-w.result.start c.find_word-w.result.end c.args.line.now) (drop c.find_word-w.result.end c.args.line.now) c.find_word-w.ensures.text c.find_word-w.ensures.left c.above_zero.result c.above_zero.ensures _ c.in-Some-above_zero.is (between c.find_word-x.result.start c.find_word-x.result.end c.args.line.now) c.find_word-x.ensures.text (omega (arith, ap length c.find_word-x.ensures.text, word_size c.args.line.now c.find_word-w.result.end c.find_word-x.result c.find_word-x.ensures, c.find_word-x.ensures.low, c.if-x.true))); item_inside = found-in c.args.line.now c.new-then-x.result _ c.find_word-x.result c.new-then-x.ensures (c.find_word-x.ensures.low, c.find_word-x.ensures.high) }

pub returns : goal.returns
unfolding of_bits
returns c = record { result_value = stock-is (drop c.args.from c.args.line.now) (between c.find_word-u.result.start c.find_word-u.result.end c.args.line.now) (drop c.find_word-u.result.end c.args.line.now) c.find_word-u.ensures.text c.find_word-u.ensures.left c.number_of.result c.number_of.ensures _ c.in-Some.is (between c.find_word-v.result.start c.find_word-v.result.end c.args.line.now) (drop c.find_word-v.result.end c.args.line.now) c.find_word-v.ensures.text c.find_word-v.ensures.left c.number_of-2.result c.number_of-2.ensures _ c.in-Some-number_of.is (between c.find_word-w.result.start c.find_word-w.result.end c.args.line.now) (drop c.find_word-w.result.end c.args.line.now) c.find_word-w.ensures.text c.find_word-w.ensures.left c.above_zero.result c.above_zero.ensures _ c.in-Some-above_zero.is (between c.find_word-x.result.start c.find_word-x.result.end c.args.line.now) c.find_word-x.ensures.text (omega (arith, ap length c.find_word-x.ensures.text, word_size c.args.line.now c.find_word-w.result.end c.find_word-x.result c.find_word-x.ensures, c.if-x.false)); item_inside = tt }
