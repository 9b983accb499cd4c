use Prim.Native.Nat.{◌≤◌}
use native.Mathlib.Omega.{arith}
use lib.Dec.{le→leb}
use lib.Ieee.{in_float, of_int}
use borrow.Author.Tests.{eq-eqb, ne_eqb}
use Rattle.householder.proofs.Steps.{lit-epsilon}
use Rattle.householder.proofs.tolerance_of.Goals as goal

pub int_to_float-x : goal.int_to_float-x
unfolding in_float
int_to_float-x c = let h : c.max-most.result ≤ 9007199254740992 = omega arith in le→leb _ _ h

pub returns-then-k-eq0 : goal.returns-then-k-eq0
unfolding of_int
returns-then-k-eq0 c = rw (eq-eqb _ _ c.if-k-eq0.true, lit-epsilon, c.max-most.ensures)

pub returns : goal.returns
returns c = rw (ne_eqb _ _ c.if-k-eq0.false)
