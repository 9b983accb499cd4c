-- `find_word`: after the blanks, up to the next.
use native.Mathlib.Omega.{arith}
use Rattle.day_words.proofs.Words.{is_word}
use Rattle.day_words.proofs.find_word.Goals as goal

pub skip-start-requires : goal.skip-start-requires
skip-start-requires c = omega arith

pub word_end-end-requires : goal.word_end-end-requires
word_end-end-requires c = c.skip-start.ensures.1

pub returns : goal.returns
returns c = is_word _ c.args.from c.skip-start.result c.word_end-end.result c.skip-start.ensures.0 c.word_end-end.ensures.0 c.word_end-end.ensures.1
