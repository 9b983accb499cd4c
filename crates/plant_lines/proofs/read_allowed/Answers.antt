-- `read_allowed`: nothing, or minutes and the end.
use mathlib.Core.Path.{sym, ap, ◌∙◌}
use native.Mathlib.Omega.{arith}
use lib.ListN.{length}
use Rattle.day_words.proofs.Words.{word_size}
use Rattle.plant_lines.proofs.MeterLine.{last_none, last-minutes, last-over, last-limit, minutes_low}
use Rattle.plant_lines.proofs.read_allowed.Goals as goal

pub find_word-w-requires : goal.find_word-w-requires
find_word-w-requires c = c.requires.0.spread_lies.1

pub returns-then-at-end : goal.returns-then-at-end
returns-then-at-end c = let a = c.args in let f = c.find_word-w in let z = word_size a.line.now a.g.spread_end f.result f.ensures in record { allowed_read = last_none _ _ _ _ _ f.ensures.text a.g.allowed c.requires.1 (omega (arith, ap length f.ensures.text, z, c.if-at-end.true)); fits = c.requires.0 }

pub slice_bounds-reading_of-count : goal.slice_bounds-reading_of-count
slice_bounds-reading_of-count c = c.find_word-w.ensures.low

pub slice_bounds-reading_of-start : goal.slice_bounds-reading_of-start
slice_bounds-reading_of-start c = omega (arith, c.find_word-w.ensures.low, c.find_word-w.ensures.high)

pub slice_bounds-reading_of-end : goal.slice_bounds-reading_of-end
slice_bounds-reading_of-end c = omega (arith, c.find_word-w.ensures.low, c.find_word-w.ensures.high)

pub returns-in_default : goal.returns-in_default
returns-in_default c = let a = c.args in let f = c.find_word-w in let z = word_size a.line.now a.g.spread_end f.result f.ensures in record { allowed_read = last-minutes _ _ _ _ _ f.ensures.text (λ n. c.if-at-end.false (omega (arith, n, ap length f.ensures.text, z, f.ensures.low))) _ f.ensures.left c.reading_of.result c.reading_of.ensures c.in_default.is; fits = (f.ensures.low, f.ensures.high) }

pub find_word-v-requires : goal.find_word-v-requires
find_word-v-requires c = c.find_word-w.ensures.high

pub returns-then-a-b : goal.returns-then-a-b
returns-then-a-b c = let a = c.args in let f = c.find_word-w in let v = c.find_word-v in let z = word_size a.line.now a.g.spread_end f.result f.ensures in let y = word_size a.line.now f.result.end v.result v.ensures in record { allowed_read = last-over _ _ _ _ _ f.ensures.text (λ n. c.if-at-end.false (omega (arith, n, ap length f.ensures.text, z, f.ensures.low))) _ f.ensures.left c.reading_of.result c.reading_of.ensures _ c.in-Some.is _ v.ensures.text (omega (arith, ap length v.ensures.text, y, v.ensures.low, c.if-a-b.true)); fits = (v.ensures.low, v.ensures.high) }

pub returns : goal.returns
returns c = let a = c.args in let i = c.requires.0 in let f = c.find_word-w in let v = c.find_word-v in let z = word_size a.line.now a.g.spread_end f.result f.ensures in let y = word_size a.line.now f.result.end v.result v.ensures in record {
  allowed_read = last-limit _ _ _ _ _ f.ensures.text (λ n. c.if-at-end.false (omega (arith, n, ap length f.ensures.text, z, f.ensures.low))) _ f.ensures.left c.reading_of.result c.reading_of.ensures _ c.in-Some.is _ v.ensures.text (omega (arith, ap length v.ensures.text, y, c.if-a-b.false));
  fits = record {
    number_low = i.number_low;
    name_lies = i.name_lies;
    name_short = i.name_short;
    spread_lies = i.spread_lies;
    minutes_low = minutes_low _ _ (sym c.in-Some.is ∙ c.reading_of.ensures);
  };
}
