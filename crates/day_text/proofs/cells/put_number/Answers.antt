-- `put_number`: its parts one after the other.
use native.Mathlib.Omega.{arith}
use Rattle.ascii.proofs.Writing.{wrote_then}
use Rattle.ascii.specs.Text.{ascii}
use Rattle.numbers.specs.Numbers.{tab}
use Rattle.day_text.proofs.cells.put_number.Goals as goal

pub put_byte-a-requires : goal.put_byte-a-requires
put_byte-a-requires c = omega (arith, c.requires)

pub put_fixed-requires : goal.put_fixed-requires
put_fixed-requires c = (omega arith, omega (arith, c.put_byte-a.ensures.until, c.requires))

pub shape_of-out : goal.shape_of-out
shape_of-out c = omega arith

pub returns : goal.returns
unfolding ascii tab
returns c = record { wrote = wrote_then c.put_byte-a.ensures c.put_fixed.ensures.wrote; upper_bound = omega (arith, c.put_fixed.ensures.upper_bound, c.put_byte-a.ensures.until) }
