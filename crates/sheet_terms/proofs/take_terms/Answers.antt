-- `take_terms`: the words that are left give the answer.
use native.Mathlib.Omega.{arith}
use mathlib.Core.Path.{refl, sym, ◌∙◌}
use Prim.Native.Nat.{◌<◌}
use lib.ListN.{length, drop}
use Rattle.day_words.proofs.Words.{word_size}
use Rattle.sheet_terms.specs.inner.Work.{turn, turn_told}
use Rattle.day_words.specs.Words.{word}
use Rattle.sheet_terms.proofs.Laws.{terms-begin, terms-end, terms-stop, terms-next, told-stop, told-go, further, ends-inside}
use Rattle.sheet_terms.proofs.take_terms.Goals as goal

pub loop-t-init : goal.loop-t-init
loop-t-init c = (omega arith, refl, terms-begin _ _ _ _ _)

pub find_word-word-requires : goal.find_word-word-requires
find_word-word-requires c = c.loop-t.invariant.0

pub finish-requires : goal.finish-requires
finish-requires c = tt

pub shape_of-numbers-then-word : goal.shape_of-numbers-then-word
shape_of-numbers-then-word c = c.loop-t.invariant.1

pub returns-then-word : goal.returns-then-word
returns-then-word c = record { numbers_after = c.finish.ensures.end c.args.line.now c.loop-t.numbers ∙ sym (terms-end c.args.balance c.args.p c.args.texts.now (drop c.loop-t.at c.args.line.now) (turn c.loop-t.t c.loop-t.numbers) (omega (arith, word_size c.args.line.now c.loop-t.at c.find_word-word.result c.find_word-word.ensures, c.if-word.true))) ∙ sym c.loop-t.invariant.2; numbers_len_unchanged = (c.loop-t.invariant.1, ends-inside c.args.line.now c.find_word-word.result.start c.finish.result c.finish.ensures.ends_at (omega (arith, c.find_word-word.ensures.low, c.find_word-word.ensures.high))) }

pub slice_bounds-take_term-count : goal.slice_bounds-take_term-count
slice_bounds-take_term-count c = omega (arith, c.find_word-word.ensures.low)

pub slice_bounds-take_term-start : goal.slice_bounds-take_term-start
slice_bounds-take_term-start c = omega (arith, c.find_word-word.ensures.low, c.find_word-word.ensures.high)

pub slice_bounds-take_term-end : goal.slice_bounds-take_term-end
slice_bounds-take_term-end c = omega (arith, c.find_word-word.ensures.low, c.find_word-word.ensures.high)

pub take_term-requires : goal.take_term-requires
take_term-requires c = (omega arith, omega (arith, c.loop-t.invariant.1))

pub shape_of-numbers-in-Err : goal.shape_of-numbers-in-Err
shape_of-numbers-in-Err c = c.take_term.ensures.numbers_len_unchanged ∙ c.loop-t.invariant.1

pub returns-in-Err : goal.returns-in-Err
returns-in-Err c = let z : 0 < length (word (drop c.loop-t.at c.args.line.now)) = omega (arith, word_size c.args.line.now c.loop-t.at c.find_word-word.result c.find_word-word.ensures, c.find_word-word.ensures.low, c.if-word.false) in record { numbers_after = terms-stop c.args.balance c.args.p c.args.texts.now (drop c.loop-t.at c.args.line.now) (turn c.loop-t.t c.loop-t.numbers) z _ c.find_word-word.ensures.text (turn_told c.take_term.result c.take_term.new.numbers) c.take_term.ensures.numbers_after _ (told-stop c.take_term.result _ _ c.in-Err.is) ∙ sym c.loop-t.invariant.2; numbers_len_unchanged = (c.take_term.ensures.numbers_len_unchanged ∙ c.loop-t.invariant.1, (c.find_word-word.ensures.low, c.find_word-word.ensures.high)) }

pub loop-t-smaller : goal.loop-t-smaller
loop-t-smaller c = let z : 0 < length (word (drop c.loop-t.at c.args.line.now)) = omega (arith, word_size c.args.line.now c.loop-t.at c.find_word-word.result c.find_word-word.ensures, c.find_word-word.ensures.low, c.if-word.false) in omega (arith, further c.args.line.now c.loop-t.at c.find_word-word.result c.find_word-word.ensures c.loop-t.invariant.0 z, c.find_word-word.ensures.high)

pub loop-t-preserved : goal.loop-t-preserved
loop-t-preserved c = let z : 0 < length (word (drop c.loop-t.at c.args.line.now)) = omega (arith, word_size c.args.line.now c.loop-t.at c.find_word-word.result c.find_word-word.ensures, c.find_word-word.ensures.low, c.if-word.false) in (c.find_word-word.ensures.high, c.take_term.ensures.numbers_len_unchanged ∙ c.loop-t.invariant.1, c.loop-t.invariant.2 ∙ terms-next c.args.balance c.args.p c.args.texts.now (drop c.loop-t.at c.args.line.now) (turn c.loop-t.t c.loop-t.numbers) z _ c.find_word-word.ensures.text (turn_told c.take_term.result c.take_term.new.numbers) c.take_term.ensures.numbers_after _ c.find_word-word.ensures.left _ (told-go c.take_term.result _ _ c.in-Ok.is))
