-- `put_tiny`: one word or the other.
use native.Mathlib.Omega.{arith}
use Rattle.numbers.specs.Numbers.{tab}
use Rattle.ascii.specs.Text.{ascii}
use Rattle.decimals.specs.Fixed.{tiny_text}
use Rattle.decimals.proofs.print.put_tiny.Goals as goal

pub put_text-requires : goal.put_text-requires
put_text-requires c = omega arith

pub shape_of-out-then-negative : goal.shape_of-out-then-negative
shape_of-out-then-negative c = omega arith

pub returns-then-negative : goal.returns-then-negative
unfolding ascii tab tiny_text
returns-then-negative c = record { wrote = rw c.if-negative.true c.put_text.ensures; upper_bound = omega (arith, c.put_text.ensures.until) }

pub put_text-requires-2 : goal.put_text-requires-2
put_text-requires-2 c = omega arith

pub shape_of-out : goal.shape_of-out
shape_of-out c = omega arith

pub returns : goal.returns
unfolding ascii tab tiny_text
returns c = record { wrote = rw c.if-negative.false c.put_text-2.ensures; upper_bound = omega (arith, c.put_text-2.ensures.until) }
