-- `put_verdict_line`: its parts one after the other.
use native.Mathlib.Omega.{arith}
use Rattle.ascii.proofs.Writing.{wrote_then}
use Rattle.ascii.specs.Text.{ascii}
use Rattle.day_text.specs.Report.{verdict_line}
use Rattle.numbers.specs.Numbers.{tab}
use Rattle.day_text.proofs.put_verdict_line.Goals as goal

pub put_verdict-a-requires : goal.put_verdict-a-requires
put_verdict-a-requires c = (omega (arith, c.requires.0), omega (arith, c.requires.1), c.requires.2, c.requires.3, c.requires.4)

pub put_byte-requires : goal.put_byte-requires
put_byte-requires c = omega (arith, c.put_verdict-a.ensures.upper_bound, c.requires.0)

pub shape_of-out : goal.shape_of-out
shape_of-out c = omega arith

pub returns : goal.returns
unfolding ascii tab verdict_line
returns c = record { wrote = wrote_then c.put_verdict-a.ensures.wrote c.put_byte.ensures; upper_bound = omega (arith, c.put_byte.ensures.until, c.put_verdict-a.ensures.upper_bound) }
