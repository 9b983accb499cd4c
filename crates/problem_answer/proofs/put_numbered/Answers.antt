-- `put_numbered`: its parts one after the other.
use native.Mathlib.Omega.{arith}
use Rattle.ascii.proofs.Writing.{wrote_then}
use Rattle.problem_answer.proofs.put_numbered.Goals as goal

pub put_text-a-requires : goal.put_text-a-requires
put_text-a-requires c = omega arith

pub put_decimal-b-requires : goal.put_decimal-b-requires
put_decimal-b-requires c = omega (arith, c.put_text-a.ensures.until)

pub put_byte-requires : goal.put_byte-requires
put_byte-requires c = omega (arith, c.put_decimal-b.ensures.upper_bound, c.put_text-a.ensures.until)

pub shape_of-out : goal.shape_of-out
shape_of-out c = omega arith

pub returns : goal.returns
returns c = wrote_then c.put_text-a.ensures (wrote_then c.put_decimal-b.ensures.wrote c.put_byte.ensures)
