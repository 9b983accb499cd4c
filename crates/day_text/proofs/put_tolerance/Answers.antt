-- `put_tolerance`: its parts one after the other.
use native.Mathlib.Omega.{arith}
use Rattle.ascii.proofs.Writing.{wrote_then}
use Rattle.ascii.specs.Text.{ascii}
use Rattle.day_text.specs.Report.{tolerance_text}
use Rattle.numbers.specs.Numbers.{tab}
use Rattle.day_text.proofs.put_tolerance.Goals as goal

pub put_text-a-requires : goal.put_text-a-requires
put_text-a-requires c = omega (arith, c.requires)

pub put_inline-b-requires : goal.put_inline-b-requires
put_inline-b-requires c = omega (arith, c.put_text-a.ensures.until, c.requires)

pub put_byte-requires : goal.put_byte-requires
put_byte-requires c = omega (arith, c.put_inline-b.ensures.upper_bound, c.put_text-a.ensures.until, c.requires)

pub shape_of-out : goal.shape_of-out
shape_of-out c = omega arith

pub returns : goal.returns
unfolding ascii tab tolerance_text
returns c = record { wrote = wrote_then c.put_text-a.ensures (wrote_then c.put_inline-b.ensures.wrote c.put_byte.ensures); upper_bound = omega (arith, c.put_byte.ensures.until, c.put_inline-b.ensures.upper_bound, c.put_text-a.ensures.until) }
