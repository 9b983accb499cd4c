-- `put_word`: the end of the line, or the word in quotes.
use native.Mathlib.Omega.{arith}
use Rattle.ascii.proofs.Writing.{wrote_then, as-text}
use Rattle.ascii.specs.Text.{ascii}
use Rattle.day_text.proofs.Rows.{word_none, word_some}
use Rattle.numbers.specs.Numbers.{tab}
use Rattle.day_text.proofs.faults.put_word.Goals as goal

pub put_text-requires : goal.put_text-requires
put_text-requires c = omega (arith, c.requires)

pub shape_of-out-then-word-eq0 : goal.shape_of-out-then-word-eq0
shape_of-out-then-word-eq0 c = omega arith

pub returns-then-word-eq0 : goal.returns-then-word-eq0
unfolding ascii tab
returns-then-word-eq0 c = record { wrote = as-text (word_none c.args.word.now c.if-word-eq0.true) c.put_text.ensures; upper_bound = omega (arith, c.put_text.ensures.until) }

pub put_byte-a-requires : goal.put_byte-a-requires
put_byte-a-requires c = omega (arith, c.requires)

pub put_shown-b-requires : goal.put_shown-b-requires
put_shown-b-requires c = omega (arith, c.put_byte-a.ensures.until, c.requires)

pub put_byte-requires : goal.put_byte-requires
put_byte-requires c = omega (arith, c.put_shown-b.ensures.upper_bound, c.put_byte-a.ensures.until, c.requires)

pub shape_of-out : goal.shape_of-out
shape_of-out c = omega arith

pub returns : goal.returns
returns c = record { wrote = as-text (word_some c.args.word.now c.if-word-eq0.false) (wrote_then c.put_byte-a.ensures (wrote_then c.put_shown-b.ensures.wrote c.put_byte.ensures)); upper_bound = omega (arith, c.put_byte.ensures.until, c.put_shown-b.ensures.upper_bound, c.put_byte-a.ensures.until) }
