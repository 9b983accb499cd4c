-- `put_found`: the end of the file, that of the line, or the word in quotes.
use native.Mathlib.Omega.{arith}
use mathlib.Core.Path.{sym, ◌∙◌}
use Rattle.numbers.specs.Numbers.{tab}
use Rattle.ascii.specs.Text.{ascii}
use Rattle.ascii.proofs.Writing.{wrote_then, as-text}
use Rattle.plant_text.proofs.Texts.{found-last, found-end, found_word}
use Rattle.plant_text.proofs.put_found.Goals as goal

pub is_last-requires : goal.is_last-requires
is_last-requires c = tt

pub put_text-requires : goal.put_text-requires
put_text-requires c = omega (arith, c.requires)

pub shape_of-out-then-is_last : goal.shape_of-out-then-is_last
shape_of-out-then-is_last c = omega arith

pub returns-then-is_last : goal.returns-then-is_last
unfolding ascii tab
returns-then-is_last c = let a = c.args in record { wrote = as-text (found-last a.e a.word.now (sym c.is_last.ensures ∙ c.if-is_last.true)) c.put_text.ensures; upper_bound = omega (arith, c.put_text.ensures.until) }

pub put_text-requires-then-word-eq0 : goal.put_text-requires-then-word-eq0
put_text-requires-then-word-eq0 c = omega (arith, c.requires)

pub shape_of-out-then-word-eq0 : goal.shape_of-out-then-word-eq0
shape_of-out-then-word-eq0 c = omega arith

pub returns-then-word-eq0 : goal.returns-then-word-eq0
unfolding ascii tab
returns-then-word-eq0 c = let a = c.args in record { wrote = as-text (found-end a.e a.word.now (sym c.is_last.ensures ∙ c.if-is_last.false) c.if-word-eq0.true) c.put_text-then-word-eq0.ensures; upper_bound = omega (arith, c.put_text-then-word-eq0.ensures.until) }

pub put_byte-a-requires : goal.put_byte-a-requires
put_byte-a-requires c = omega (arith, c.requires)

pub put_shown-b-requires : goal.put_shown-b-requires
put_shown-b-requires c = omega (arith, c.put_byte-a.ensures.until, c.requires)

pub put_byte-requires : goal.put_byte-requires
put_byte-requires c = omega (arith, c.put_shown-b.ensures.upper_bound, c.put_byte-a.ensures.until, c.requires)

pub shape_of-out : goal.shape_of-out
shape_of-out c = omega arith

pub returns : goal.returns
returns c = let a = c.args in record { wrote = as-text (found_word a.e a.word.now (sym c.is_last.ensures ∙ c.if-is_last.false) c.if-word-eq0.false) (wrote_then c.put_byte-a.ensures (wrote_then c.put_shown-b.ensures.wrote c.put_byte.ensures)); upper_bound = omega (arith, c.put_byte.ensures.until, c.put_shown-b.ensures.upper_bound, c.put_byte-a.ensures.until) }
