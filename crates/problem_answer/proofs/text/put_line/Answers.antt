-- `put_line`: its parts one after the other.
use native.Mathlib.Omega.{arith}
use Rattle.ascii.proofs.Writing.{wrote_then, as-text}
use Rattle.problem_answer.proofs.Lines.{line-is}
use Rattle.problem_answer.proofs.text.put_line.Goals as goal

pub put_byte-a-requires : goal.put_byte-a-requires
put_byte-a-requires c = omega arith

pub put_byte-b-requires : goal.put_byte-b-requires
put_byte-b-requires c = omega (arith, c.put_byte-a.ensures.until)

pub put_decimal-c-requires : goal.put_decimal-c-requires
put_decimal-c-requires c = omega (arith, c.put_byte-b.ensures.until, c.put_byte-a.ensures.until)

pub put_byte-d-requires : goal.put_byte-d-requires
put_byte-d-requires c = omega (arith, c.put_decimal-c.ensures.upper_bound)

pub put_float-e-requires : goal.put_float-e-requires
put_float-e-requires c = omega (arith, c.put_decimal-c.ensures.upper_bound)

pub put_byte-requires : goal.put_byte-requires
put_byte-requires c = omega (arith, c.put_float-e.ensures.upper_bound, c.put_decimal-c.ensures.upper_bound)

pub shape_of-out : goal.shape_of-out
shape_of-out c = omega arith

pub returns : goal.returns
returns c = let a = c.args in record {
  wrote = as-text (line-is a.tag a.i a.x)
      (wrote_then c.put_byte-a.ensures (wrote_then c.put_byte-b.ensures (wrote_then c.put_decimal-c.ensures.wrote
      (wrote_then c.put_byte-d.ensures (wrote_then c.put_float-e.ensures.wrote c.put_byte.ensures)))));
  upper_bound = omega (arith, c.put_byte.ensures.until, c.put_float-e.ensures.upper_bound, c.put_byte-d.ensures.until, c.put_decimal-c.ensures.upper_bound, c.put_byte-b.ensures.until, c.put_byte-a.ensures.until);
}
