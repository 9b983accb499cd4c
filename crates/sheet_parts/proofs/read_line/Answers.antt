-- `read_line`: word by word.
use native.Mathlib.Omega.{arith}
use mathlib.Core.Path.{ap}
use lib.ListN.{length, drop}
use Rattle.day_words.proofs.Words.{word_size}
use Rattle.sheet_words.specs.Lines.{between}
use lib.Ieee.{of_bits}
use Rattle.sheet_words.proofs.Laws.{found-in}
use Rattle.sheet_parts.proofs.Laws.{item-wrong, line-capacity, line-end, line-is}
use Rattle.sheet_parts.proofs.read_line.Goals as goal

pub returns-in_default : goal.returns-in_default
returns-in_default c = record { result_value = item-wrong c.args.line.now c.new.result _ c.find_word-u.result c.new.ensures _ (line-capacity (drop c.args.from c.args.line.now) (between c.find_word-u.result.start c.find_word-u.result.end c.args.line.now) (drop c.find_word-u.result.end c.args.line.now) c.find_word-u.ensures.text c.find_word-u.ensures.left c.above_zero.result c.above_zero.ensures c.in_default.is); item_inside = found-in c.args.line.now c.new.result _ c.find_word-u.result c.new.ensures (c.find_word-u.ensures.low, c.find_word-u.ensures.high) }

pub returns-then-x : goal.returns-then-x
returns-then-x c = record { result_value = item-wrong c.args.line.now c.new-then-x.result _ c.find_word-x.result c.new-then-x.ensures _ (line-end (drop c.args.from c.args.line.now) (between c.find_word-u.result.start c.find_word-u.result.end c.args.line.now) (drop c.find_word-u.result.end c.args.line.now) c.find_word-u.ensures.text c.find_word-u.ensures.left c.above_zero.result c.above_zero.ensures _ c.in-Some.is (between c.find_word-x.result.start c.find_word-x.result.end c.args.line.now) c.find_word-x.ensures.text (omega (arith, ap length c.find_word-x.ensures.text, word_size c.args.line.now c.find_word-u.result.end c.find_word-x.result c.find_word-x.ensures, c.find_word-x.ensures.low, c.if-x.true))); item_inside = found-in c.args.line.now c.new-then-x.result _ c.find_word-x.result c.new-then-x.ensures (c.find_word-x.ensures.low, c.find_word-x.ensures.high) }

pub returns : goal.returns
unfolding of_bits
returns c = record { result_value = line-is (drop c.args.from c.args.line.now) (between c.find_word-u.result.start c.find_word-u.result.end c.args.line.now) (drop c.find_word-u.result.end c.args.line.now) c.find_word-u.ensures.text c.find_word-u.ensures.left c.above_zero.result c.above_zero.ensures _ c.in-Some.is (between c.find_word-x.result.start c.find_word-x.result.end c.args.line.now) c.find_word-x.ensures.text (omega (arith, ap length c.find_word-x.ensures.text, word_size c.args.line.now c.find_word-u.result.end c.find_word-x.result c.find_word-x.ensures, c.if-x.false)); item_inside = tt }
