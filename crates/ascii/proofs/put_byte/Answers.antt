-- `put_byte`: one byte more.
use native.Mathlib.Omega.{arith}
use lib.ListN.{length-set}
use Rattle.ascii.proofs.Writing.{wrote_one}
use Rattle.ascii.proofs.put_byte.Goals as goal

pub bounds-out-at : goal.bounds-out-at
bounds-out-at c = omega arith

pub overflow_add-result : goal.overflow_add-result
overflow_add-result c = omega arith

pub shape_of-out : goal.shape_of-out
shape_of-out c = simp length-set

pub returns : goal.returns
returns c = wrote_one _ _ _ (omega arith)
