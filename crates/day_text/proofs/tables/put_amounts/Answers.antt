-- `put_amounts`: its parts one after the other.
use native.Mathlib.Omega.{arith}
use Rattle.ascii.proofs.Writing.{wrote_then}
use Rattle.day_text.proofs.Parts.{as_number}
use Rattle.day_text.specs.Tables.{amounts_text}
use Rattle.day_text.proofs.tables.put_amounts.Goals as goal

pub slack-left-requires : goal.slack-left-requires
slack-left-requires c = tt

pub put_number-a-requires : goal.put_number-a-requires
put_number-a-requires c = omega (arith, c.requires)

pub put_number-b-requires : goal.put_number-b-requires
put_number-b-requires c = omega (arith, c.put_number-a.ensures.upper_bound, c.requires)

pub put_number-requires : goal.put_number-requires
put_number-requires c = omega (arith, c.put_number-b.ensures.upper_bound, c.put_number-a.ensures.upper_bound, c.requires)

pub shape_of-out : goal.shape_of-out
shape_of-out c = omega arith

pub returns : goal.returns
unfolding amounts_text
returns c = record { wrote = wrote_then c.put_number-a.ensures.wrote (wrote_then c.put_number-b.ensures.wrote (as_number c.slack-left.ensures c.put_number.ensures.wrote)); upper_bound = omega (arith, c.put_number.ensures.upper_bound, c.put_number-b.ensures.upper_bound, c.put_number-a.ensures.upper_bound) }
