-- `put_six`: three digits and three.
use native.Mathlib.Omega.{arith}
use Rattle.ascii.proofs.Writing.{wrote_then}
use Rattle.ascii.proofs.put_six.Goals as goal

pub put_three-a-requires : goal.put_three-a-requires
put_three-a-requires c = omega arith

pub shape_of-out : goal.shape_of-out
shape_of-out c = omega arith

pub returns : goal.returns
returns c = wrote_then c.put_three-a.ensures c.put_three.ensures
