-- `put_refusal`: its number fits, and is written.
use native.Mathlib.Omega.{arith}
use Rattle.problem_answer.proofs.put_refusal.Goals as goal

pub number-requires : goal.number-requires
number-requires c = tt

pub overflow_cast-number : goal.overflow_cast-number
overflow_cast-number c = omega arith

pub put_refused-requires : goal.put_refused-requires
put_refused-requires c = omega arith

pub shape_of-out : goal.shape_of-out
shape_of-out c = omega arith

pub returns : goal.returns
returns c = rw (← c.number.ensures) c.put_refused.ensures
