-- `put_volumes`: its parts one after the other.
use native.Mathlib.Omega.{arith}
use Rattle.ascii.proofs.Writing.{wrote_then}
use Rattle.day_text.specs.Items.{volumes_text}
use Rattle.day_text.proofs.items.put_volumes.Goals as goal

pub put_number-a-requires : goal.put_number-a-requires
put_number-a-requires c = omega (arith, c.requires)

pub put_number-b-requires : goal.put_number-b-requires
put_number-b-requires c = omega (arith, c.put_number-a.ensures.upper_bound, c.requires)

pub put_number-c-requires : goal.put_number-c-requires
put_number-c-requires c = omega (arith, c.put_number-b.ensures.upper_bound, c.put_number-a.ensures.upper_bound, c.requires)

pub put_number-d-requires : goal.put_number-d-requires
put_number-d-requires c = omega (arith, c.put_number-c.ensures.upper_bound, c.put_number-b.ensures.upper_bound, c.put_number-a.ensures.upper_bound, c.requires)

pub put_number-requires : goal.put_number-requires
put_number-requires c = omega (arith, c.put_number-d.ensures.upper_bound, c.put_number-c.ensures.upper_bound, c.put_number-b.ensures.upper_bound, c.put_number-a.ensures.upper_bound, c.requires)

pub shape_of-out : goal.shape_of-out
shape_of-out c = omega arith

pub returns : goal.returns
unfolding volumes_text
returns c = record { wrote = wrote_then c.put_number-a.ensures.wrote (wrote_then c.put_number-b.ensures.wrote (wrote_then c.put_number-c.ensures.wrote (wrote_then c.put_number-d.ensures.wrote c.put_number.ensures.wrote))); upper_bound = omega (arith, c.put_number.ensures.upper_bound, c.put_number-d.ensures.upper_bound, c.put_number-c.ensures.upper_bound, c.put_number-b.ensures.upper_bound, c.put_number-a.ensures.upper_bound) }
