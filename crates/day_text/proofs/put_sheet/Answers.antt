-- `put_sheet`: its parts one after the other.
use native.Mathlib.Omega.{arith}
use Rattle.ascii.proofs.Writing.{wrote_then}
use Rattle.ascii.specs.Text.{ascii}
use Rattle.day_text.specs.Report.{sheet_text}
use Rattle.numbers.specs.Numbers.{tab}
use Rattle.day_text.proofs.put_sheet.Goals as goal

pub put_text-a-requires : goal.put_text-a-requires
put_text-a-requires c = omega (arith, c.requires.0)

pub put_decimal-b-requires : goal.put_decimal-b-requires
put_decimal-b-requires c = omega (arith, c.put_text-a.ensures.until, c.requires.0)

pub put_text-c-requires : goal.put_text-c-requires
put_text-c-requires c = omega (arith, c.put_decimal-b.ensures.upper_bound, c.put_text-a.ensures.until, c.requires.0)

pub put_text-requires : goal.put_text-requires
put_text-requires c = omega (arith, c.put_text-c.ensures.until, c.put_decimal-b.ensures.upper_bound, c.put_text-a.ensures.until, c.requires.0, c.requires.1)

pub shape_of-out : goal.shape_of-out
shape_of-out c = omega arith

pub returns : goal.returns
unfolding ascii tab sheet_text
returns c = wrote_then c.put_text-a.ensures (wrote_then c.put_decimal-b.ensures.wrote (wrote_then c.put_text-c.ensures c.put_text.ensures))
