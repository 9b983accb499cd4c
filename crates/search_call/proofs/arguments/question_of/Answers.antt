-- `question_of`: each way out by its tests.
use mathlib.Core.Path.{sym, ◌∙◌}
use native.Mathlib.Omega.{arith}
use borrow.Author.Tests.{le-leb, lt-leb}
use Rattle.search_call.proofs.arguments.question_of.Goals as goal

pub are_words-requires : goal.are_words-requires
are_words-requires c = omega arith

pub returns-then-not-are_words : goal.returns-then-not-are_words
returns-then-not-are_words c = rw (sym c.are_words.ensures ∙ c.if-not-are_words.true)

pub bounds-u-0 : goal.bounds-u-0
bounds-u-0 c = omega arith

pub returns-then-u-gt-PHASE_LOWERED : goal.returns-then-u-gt-PHASE_LOWERED
returns-then-u-gt-PHASE_LOWERED c = rw ((sym c.are_words.ensures ∙ c.if-not-are_words.false), lt-leb _ _ c.if-u-gt-PHASE_LOWERED.true)

pub bounds-u-0-2 : goal.bounds-u-0-2
bounds-u-0-2 c = omega arith

pub returns : goal.returns
returns c = rw ((sym c.are_words.ensures ∙ c.if-not-are_words.false), le-leb _ _ c.if-u-gt-PHASE_LOWERED.false)
