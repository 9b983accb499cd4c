-- `read_name`: a name, and what follows.
use mathlib.Core.Path.{ap}
use native.Mathlib.Omega.{arith}
use lib.ListN.{length}
use Rattle.day_words.proofs.Words.{word_size}
use Rattle.sheet_parts.proofs.Laws.{short-fine}
use Rattle.plant_lines.proofs.MeterLine.{name-not, name_is}
use Rattle.plant_lines.proofs.read_name.Goals as goal

pub find_word-w-requires : goal.find_word-w-requires
find_word-w-requires c = c.requires.1

pub slice_bounds-judge-count : goal.slice_bounds-judge-count
slice_bounds-judge-count c = c.find_word-w.ensures.low

pub slice_bounds-judge-start : goal.slice_bounds-judge-start
slice_bounds-judge-start c = omega (arith, c.find_word-w.ensures.low, c.find_word-w.ensures.high)

pub slice_bounds-judge-end : goal.slice_bounds-judge-end
slice_bounds-judge-end c = omega (arith, c.find_word-w.ensures.low, c.find_word-w.ensures.high)

pub read_spread-requires : goal.read_spread-requires
read_spread-requires c = let a = c.args in
    let f = c.find_word-w in
    let s = short-fine c.judge.result _ c.judge.ensures.short_if c.in-Ok.is in
    (c.requires.0, (f.ensures.low, f.ensures.high), omega (arith, s, ap length f.ensures.text, word_size a.line.now a.from f.result f.ensures, f.ensures.low))

pub returns-in-Err : goal.returns-in-Err
returns-in-Err c = let f = c.find_word-w.ensures in record { name_read = name-not _ _ _ f.text f.left _ c.judge.result c.judge.ensures.value _ c.in-Err.is; fits = (f.low, f.high) }

pub returns-in-Ok : goal.returns-in-Ok
returns-in-Ok c = let f = c.find_word-w.ensures in record { name_read = name_is _ _ _ f.text f.left _ c.judge.result c.judge.ensures.value _ c.in-Ok.is _ c.read_spread.ensures.spread_read; fits = c.read_spread.ensures.fits }
