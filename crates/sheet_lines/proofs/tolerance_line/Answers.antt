-- `tolerance_line`: the number and the end.
use mathlib.Core.Path.{ap}
use native.Mathlib.Omega.{arith}
use lib.ListN.{length, length-set}
use Rattle.day_words.proofs.Words.{word_size}
use Rattle.sheet_words.proofs.Laws.{found-in}
use Rattle.sheet_lines.specs.inner.Work.{state}
use Rattle.sheet_lines.proofs.LineKinds.{line-wrong, second-tolerance, tolerance-not, tolerance-over, tolerance-is}
use Rattle.sheet_lines.proofs.tolerance_line.Goals as goal

pub returns-then-s : goal.returns-then-s
returns-then-s c = let a = c.args in record { tolerance = (λ texts wholes. line-wrong a.line.now c.new.result _ a.kind c.new.ensures texts wholes a.numbers.now _ (second-tolerance _ _ (state a.s texts wholes a.numbers.now) c.if-s.true)); sound = found-in a.line.now c.new.result _ a.kind c.new.ensures (c.requires.0) }

pub find_word-w-requires : goal.find_word-w-requires
find_word-w-requires c = c.requires.0.1

pub slice_bounds-not_below_zero-count : goal.slice_bounds-not_below_zero-count
slice_bounds-not_below_zero-count c = c.find_word-w.ensures.low

pub slice_bounds-not_below_zero-start : goal.slice_bounds-not_below_zero-start
slice_bounds-not_below_zero-start c = omega (arith, c.find_word-w.ensures.low, c.find_word-w.ensures.high)

pub slice_bounds-not_below_zero-end : goal.slice_bounds-not_below_zero-end
slice_bounds-not_below_zero-end c = omega (arith, c.find_word-w.ensures.low, c.find_word-w.ensures.high)

pub returns-in_default : goal.returns-in_default
returns-in_default c = let a = c.args in let f = c.find_word-w.ensures in record { tolerance = (λ texts wholes. line-wrong a.line.now c.new-in_default.result _ c.find_word-w.result c.new-in_default.ensures texts wholes a.numbers.now _ (tolerance-not _ _ (state a.s texts wholes a.numbers.now) c.if-s.false _ _ f.text f.left c.not_below_zero.result c.not_below_zero.ensures c.in_default.is)); sound = found-in a.line.now c.new-in_default.result _ c.find_word-w.result c.new-in_default.ensures ((f.low, f.high)) }

pub find_word-v-requires : goal.find_word-v-requires
find_word-v-requires c = c.find_word-w.ensures.high

pub returns-then-v : goal.returns-then-v
returns-then-v c = let a = c.args in let f = c.find_word-w.ensures in let g = c.find_word-v.ensures in record { tolerance = (λ texts wholes. line-wrong a.line.now c.new-then-v.result _ c.find_word-v.result c.new-then-v.ensures texts wholes a.numbers.now _ (tolerance-over _ _ (state a.s texts wholes a.numbers.now) c.if-s.false _ _ f.text f.left c.not_below_zero.result c.not_below_zero.ensures _ c.in-Some.is _ g.text (omega (arith, ap length g.text, word_size a.line.now c.find_word-w.result.end c.find_word-v.result g, g.low, c.if-v.true)))); sound = found-in a.line.now c.new-then-v.result _ c.find_word-v.result c.new-then-v.ensures ((g.low, g.high)) }

pub shape_of-numbers : goal.shape_of-numbers
shape_of-numbers c = simp length-set

pub returns : goal.returns
returns c = let a = c.args in let f = c.find_word-w.ensures in let g = c.find_word-v.ensures in record { tolerance = (λ texts wholes. tolerance-is _ _ (state a.s texts wholes a.numbers.now) c.if-s.false _ _ f.text f.left c.not_below_zero.result c.not_below_zero.ensures _ c.in-Some.is _ g.text (omega (arith, ap length g.text, word_size a.line.now c.find_word-w.result.end c.find_word-v.result g, c.if-v.false))); sound = c.requires.1 }
