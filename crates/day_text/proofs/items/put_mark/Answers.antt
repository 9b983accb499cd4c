-- `put_mark`: two blanks and the word, or nothing.
use native.Mathlib.Omega.{arith}
use Rattle.ascii.proofs.Writing.{wrote_then, wrote_none}
use Rattle.ascii.specs.Text.{ascii}
use Rattle.day_text.specs.Items.{mark_text}
use Rattle.numbers.specs.Numbers.{tab}
use Rattle.day_text.proofs.items.put_mark.Goals as goal

pub put_text-a-requires : goal.put_text-a-requires
put_text-a-requires c = omega (arith, c.requires.0)

pub put_text-requires : goal.put_text-requires
put_text-requires c = omega (arith, c.put_text-a.ensures.until, c.requires.0, c.requires.1)

pub shape_of-out-then-set : goal.shape_of-out-then-set
shape_of-out-then-set c = omega arith

pub returns-then-set : goal.returns-then-set
unfolding ascii tab mark_text
returns-then-set c = record { wrote = rw c.if-set.true (wrote_then c.put_text-a.ensures c.put_text.ensures); upper_bound = omega (arith, c.put_text.ensures.until, c.put_text-a.ensures.until, c.requires.0, c.requires.1) }

pub returns : goal.returns
unfolding ascii tab mark_text
returns c = record { wrote = rw c.if-set.false (wrote_none _ _ (omega (arith, c.requires.0))); upper_bound = omega arith }
