-- `put_done`: its parts one after the other.
use native.Mathlib.Omega.{arith}
use Rattle.ascii.proofs.Writing.{wrote_then, as-text}
use Rattle.problem_answer.proofs.Lines.{done-is}
use Rattle.problem_answer.proofs.put_done.Goals as goal

pub put_text-a-requires : goal.put_text-a-requires
put_text-a-requires c = omega arith

pub put_float-b-requires : goal.put_float-b-requires
put_float-b-requires c = omega (arith, c.put_text-a.ensures.until)

pub put_byte-c-requires : goal.put_byte-c-requires
put_byte-c-requires c = omega (arith, c.put_float-b.ensures.upper_bound, c.put_text-a.ensures.until)

pub put_lines-e-requires : goal.put_lines-e-requires
put_lines-e-requires c = omega (arith, c.put_byte-c.ensures.until, c.put_float-b.ensures.upper_bound, c.put_text-a.ensures.until)

pub put_lines-requires : goal.put_lines-requires
put_lines-requires c = omega (arith, c.requires, c.put_lines-e.ensures.upper_bound, c.put_byte-c.ensures.until, c.put_float-b.ensures.upper_bound, c.put_text-a.ensures.until)

pub shape_of-out : goal.shape_of-out
shape_of-out c = omega arith

pub returns : goal.returns
returns c = let a = c.args in
    as-text (done-is a.relaxation a.d.now a.multipliers.now)
    (wrote_then c.put_text-a.ensures (wrote_then c.put_float-b.ensures.wrote (wrote_then c.put_byte-c.ensures
    (wrote_then c.put_lines-e.ensures.wrote c.put_lines.ensures.wrote))))
