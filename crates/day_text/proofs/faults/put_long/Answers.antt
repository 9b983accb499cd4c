-- `put_long`: its text.
use native.Mathlib.Omega.{arith}
use Rattle.numbers.specs.Numbers.{tab}
use Rattle.ascii.specs.Text.{ascii}
use Rattle.day_text.proofs.faults.put_long.Goals as goal

pub put_text-requires : goal.put_text-requires
put_text-requires c = omega arith

pub shape_of-out : goal.shape_of-out
shape_of-out c = omega arith

pub returns : goal.returns
unfolding ascii tab
returns c = c.put_text.ensures
