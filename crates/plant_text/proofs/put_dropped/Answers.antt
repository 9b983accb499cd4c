-- `put_dropped`: its parts one after the other.
use native.Mathlib.Omega.{arith}
use Rattle.numbers.specs.Numbers.{tab}
use Rattle.ascii.specs.Text.{ascii}
use Rattle.plant.specs.Texts.{record_text}
use Rattle.ascii.proofs.Writing.{wrote_then}
use Rattle.plant_text.proofs.put_dropped.Goals as goal

pub put_text-a-requires : goal.put_text-a-requires
put_text-a-requires c = omega (arith, c.requires)

pub put_decimal-b-requires : goal.put_decimal-b-requires
put_decimal-b-requires c = omega (arith, c.put_text-a.ensures.until, c.requires)

pub put_text-requires : goal.put_text-requires
put_text-requires c = omega (arith, c.put_decimal-b.ensures.upper_bound, c.put_text-a.ensures.until, c.requires)

pub shape_of-out : goal.shape_of-out
shape_of-out c = omega arith

pub returns : goal.returns
unfolding ascii tab record_text
returns c = record { wrote = wrote_then c.put_text-a.ensures (wrote_then c.put_decimal-b.ensures.wrote c.put_text.ensures); upper_bound = omega (arith, c.put_text.ensures.until, c.put_decimal-b.ensures.upper_bound, c.put_text-a.ensures.until) }
