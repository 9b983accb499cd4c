-- `take_name`: a name, and its place.
use lib.ListN.{drop}
use Rattle.sheet_words.specs.Lines.{between}
use Rattle.sheet_parts.proofs.Laws.{name-not, name-fine, short-fine}
use Rattle.sheet_parts.proofs.take_name.Goals as goal

pub fill-name-requires : goal.fill-name-requires
fill-name-requires c = short-fine c.judge_name.result _ c.judge_name.ensures.short_if c.in-Ok.is

pub returns-in-Err : goal.returns-in-Err
returns-in-Err c = record { texts_after = name-not c.args.k (drop c.args.from c.args.line.now) c.args.texts.now (between c.find_word-word.result.start c.find_word-word.result.end c.args.line.now) c.find_word-word.ensures.text c.judge_name.result c.judge_name.ensures.value _ c.in-Err.is; inside = (c.find_word-word.ensures.low, c.find_word-word.ensures.high) }

pub returns-in-Ok : goal.returns-in-Ok
returns-in-Ok c = record { texts_after = name-fine c.args.k (drop c.args.from c.args.line.now) c.args.texts.now (between c.find_word-word.result.start c.find_word-word.result.end c.args.line.now) c.find_word-word.ensures.text c.judge_name.result c.judge_name.ensures.value c.in-Ok.is c.fill-name.result c.fill-name.ensures _ c.find_word-word.ensures.left _ c.put_text.ensures.held; inside = c.find_word-word.ensures.high }
