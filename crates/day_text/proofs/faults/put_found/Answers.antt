-- `put_found`: the end of the sheet, or what was found in the line.
use mathlib.Core.Path.{sym, ◌∙◌}
use native.Mathlib.Omega.{arith}
use Rattle.ascii.specs.Text.{ascii}
use Rattle.day_text.specs.Refusals.{found_text}
use Rattle.numbers.specs.Numbers.{tab}
use Rattle.day_text.proofs.faults.put_found.Goals as goal

pub is_after_all-requires : goal.is_after_all-requires
is_after_all-requires c = tt

pub put_text-requires : goal.put_text-requires
put_text-requires c = omega (arith, c.requires)

pub shape_of-out-then-is_after_all : goal.shape_of-out-then-is_after_all
shape_of-out-then-is_after_all c = omega arith

pub returns-then-is_after_all : goal.returns-then-is_after_all
unfolding ascii tab found_text
returns-then-is_after_all c = record { wrote = rw (sym c.is_after_all.ensures ∙ c.if-is_after_all.true) c.put_text.ensures; upper_bound = omega (arith, c.put_text.ensures.until) }

pub put_word-requires : goal.put_word-requires
put_word-requires c = omega (arith, c.requires)

pub shape_of-out : goal.shape_of-out
shape_of-out c = omega arith

pub returns : goal.returns
unfolding found_text
returns c = record { wrote = rw (sym c.is_after_all.ensures ∙ c.if-is_after_all.false) c.put_word.ensures.wrote; upper_bound = omega (arith, c.put_word.ensures.upper_bound) }
