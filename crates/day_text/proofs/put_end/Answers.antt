-- `put_end`: its parts one after the other.
use native.Mathlib.Omega.{arith}
use Rattle.ascii.proofs.Writing.{wrote_then}
use Rattle.ascii.specs.Text.{ascii}
use Rattle.day_text.specs.Report.{end_text}
use Rattle.numbers.specs.Numbers.{tab}
use Rattle.day_text.proofs.put_end.Goals as goal

pub put_tolerance-a-requires : goal.put_tolerance-a-requires
put_tolerance-a-requires c = omega (arith, c.requires.0)

pub put_text-b-requires : goal.put_text-b-requires
put_text-b-requires c = omega (arith, c.put_tolerance-a.ensures.upper_bound, c.requires.0)

pub put_sheet-requires : goal.put_sheet-requires
put_sheet-requires c = (omega (arith, c.put_text-b.ensures.until, c.put_tolerance-a.ensures.upper_bound, c.requires.0), c.requires.1)

pub shape_of-out : goal.shape_of-out
shape_of-out c = omega arith

pub returns : goal.returns
unfolding ascii tab end_text
returns c = wrote_then c.put_tolerance-a.ensures.wrote (wrote_then c.put_text-b.ensures c.put_sheet.ensures)
