-- `put_missing`: its parts one after the other.
use native.Mathlib.Omega.{arith}
use Rattle.numbers.specs.Numbers.{tab}
use Rattle.ascii.specs.Text.{ascii}
use Rattle.plant.specs.Texts.{missing_text}
use Rattle.ascii.proofs.Writing.{wrote_then}
use Rattle.plant_text.proofs.put_missing.Goals as goal

pub put_text-a-requires : goal.put_text-a-requires
put_text-a-requires c = omega (arith, c.requires)

pub put_decimal-b-requires : goal.put_decimal-b-requires
put_decimal-b-requires c = omega (arith, c.put_text-a.ensures.until, c.requires)

pub put_text-c-requires : goal.put_text-c-requires
put_text-c-requires c = omega (arith, c.put_decimal-b.ensures.upper_bound, c.put_text-a.ensures.until, c.requires)

pub put_text-d-requires : goal.put_text-d-requires
put_text-d-requires c = omega (arith, c.put_text-c.ensures.until, c.put_decimal-b.ensures.upper_bound, c.put_text-a.ensures.until, c.requires)

pub put_byte-requires : goal.put_byte-requires
put_byte-requires c = omega (arith, c.put_text-d.ensures.until, c.put_text-c.ensures.until, c.put_decimal-b.ensures.upper_bound, c.put_text-a.ensures.until, c.requires)

pub shape_of-out : goal.shape_of-out
shape_of-out c = omega arith

pub returns : goal.returns
unfolding ascii tab missing_text
returns c = record { wrote = wrote_then c.put_text-a.ensures (wrote_then c.put_decimal-b.ensures.wrote (wrote_then c.put_text-c.ensures (wrote_then c.put_text-d.ensures c.put_byte.ensures))); upper_bound = omega (arith, c.put_byte.ensures.until, c.put_text-d.ensures.until, c.put_text-c.ensures.until, c.put_decimal-b.ensures.upper_bound, c.put_text-a.ensures.until) }
