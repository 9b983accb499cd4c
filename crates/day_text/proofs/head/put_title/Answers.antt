-- `put_title`: its parts one after the other.
use native.Mathlib.Omega.{arith}
use Rattle.ascii.proofs.Writing.{wrote_then}
use Rattle.ascii.specs.Text.{ascii}
use Rattle.day_text.specs.Report.{title_text}
use Rattle.numbers.specs.Numbers.{tab}
use Rattle.day_text.proofs.head.put_title.Goals as goal

pub put_text-a-requires : goal.put_text-a-requires
put_text-a-requires c = omega (arith, c.requires.0)

pub put_words-b-requires : goal.put_words-b-requires
put_words-b-requires c = (omega (arith, c.put_text-a.ensures.until, c.requires.0), c.requires.1, omega arith)

pub put_byte-requires : goal.put_byte-requires
put_byte-requires c = omega (arith, c.put_words-b.ensures.upper_bound, c.put_text-a.ensures.until, c.requires.0)

pub shape_of-out : goal.shape_of-out
shape_of-out c = omega arith

pub returns : goal.returns
unfolding ascii tab title_text
returns c = record { wrote = wrote_then c.put_text-a.ensures (wrote_then c.put_words-b.ensures.wrote c.put_byte.ensures); upper_bound = omega (arith, c.put_byte.ensures.until, c.put_words-b.ensures.upper_bound, c.put_text-a.ensures.until) }
