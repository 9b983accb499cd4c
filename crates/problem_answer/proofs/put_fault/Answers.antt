-- `put_fault`: its text and the number.
use native.Mathlib.Omega.{arith}
use Rattle.ascii.proofs.Writing.{as-text}
use Rattle.problem_answer.proofs.Lines.{fault-is}
use Rattle.problem_answer.proofs.put_fault.Goals as goal

pub put_numbered-requires : goal.put_numbered-requires
put_numbered-requires c = omega arith

pub shape_of-out : goal.shape_of-out
shape_of-out c = omega arith

pub returns : goal.returns
returns c = as-text (fault-is c.args.k) c.put_numbered.ensures
