-- `quotient`: one rounded division.
use native.Mathlib.Omega.{arith}
use Rattle.decimals.proofs.Quotients.{exact, value-plus, value-minus}
use Rattle.decimals.proofs.quotient.Goals as goal

pub int_to_float-q : goal.int_to_float-q
int_to_float-q c = exact c.args.a (omega arith)

pub returns-then-negative : goal.returns-then-negative
returns-then-negative c = let a = c.args in value-minus a.a a.k (omega arith) (omega arith) c.power.result c.power.ensures a.negative c.if-negative.true

pub returns : goal.returns
returns c = let a = c.args in value-plus a.a a.k (omega arith) (omega arith) c.power.result c.power.ensures a.negative c.if-negative.false
