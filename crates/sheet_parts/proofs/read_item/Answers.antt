-- `read_item`: by its kind.
use mathlib.Core.Path.{◌∙◌}
use lib.ListN.{drop}
use Rattle.sheet_words.specs.Lines.{between}
use Rattle.sheet_words.proofs.Laws.{found-in}
use Rattle.sheet_parts.proofs.Laws.{item-wrong, item-letter, item-meter, item-line, item-stock}
use Rattle.sheet_parts.proofs.read_item.Goals as goal

pub returns-then-begins_letter : goal.returns-then-begins_letter
returns-then-begins_letter c = record { result_value = item-wrong c.args.line.now c.new.result _ c.find_word-w.result c.new.ensures _ (item-letter c.args.k (drop c.args.from c.args.line.now) (between c.find_word-w.result.start c.find_word-w.result.end c.args.line.now) c.find_word-w.ensures.text c.begins_letter.result c.begins_letter.ensures c.if-begins_letter.true); item_inside = found-in c.args.line.now c.new.result _ c.find_word-w.result c.new.ensures (c.find_word-w.ensures.low, c.find_word-w.ensures.high) }

pub returns-then-k-eq0 : goal.returns-then-k-eq0
returns-then-k-eq0 c = record { result_value = c.read_meter.ensures.result_value ∙ item-meter c.args.k (drop c.args.from c.args.line.now) (between c.find_word-w.result.start c.find_word-w.result.end c.args.line.now) c.find_word-w.ensures.text c.begins_letter.result c.begins_letter.ensures c.if-begins_letter.false c.if-k-eq0.true; item_inside = c.read_meter.ensures.item_inside }

pub returns-then-k-eq1 : goal.returns-then-k-eq1
returns-then-k-eq1 c = record { result_value = c.read_line.ensures.result_value ∙ item-line c.args.k (drop c.args.from c.args.line.now) (between c.find_word-w.result.start c.find_word-w.result.end c.args.line.now) c.find_word-w.ensures.text c.begins_letter.result c.begins_letter.ensures c.if-begins_letter.false c.if-k-eq0.false c.if-k-eq1.true; item_inside = c.read_line.ensures.item_inside }

pub returns : goal.returns
returns c = record { result_value = c.read_stock.ensures.result_value ∙ item-stock c.args.k (drop c.args.from c.args.line.now) (between c.find_word-w.result.start c.find_word-w.result.end c.args.line.now) c.find_word-w.ensures.text c.begins_letter.result c.begins_letter.ensures c.if-begins_letter.false c.if-k-eq0.false c.if-k-eq1.false; item_inside = c.read_stock.ensures.item_inside }
