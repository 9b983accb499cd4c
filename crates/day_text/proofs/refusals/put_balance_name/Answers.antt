-- `put_balance_name`: nothing, or the name.
use native.Mathlib.Omega.{arith}
use borrow.Author.Tests.{lt-ltb, le-ltb}
use Rattle.ascii.proofs.Writing.{wrote_none}
use Rattle.day_text.specs.Refusals.{balance_named}
use Rattle.day_text.proofs.refusals.put_balance_name.Goals as goal

pub returns-then-place-ge16 : goal.returns-then-place-ge16
unfolding balance_named
returns-then-place-ge16 c = record { wrote = rw (le-ltb _ _ c.if-place-ge16.true) (wrote_none _ _ (omega (arith, c.requires.0))); upper_bound = omega arith }

pub overflow_add-place : goal.overflow_add-place
overflow_add-place c = omega (arith, c.if-place-ge16.false)

pub put_name-requires : goal.put_name-requires
put_name-requires c = (omega (arith, c.requires.0, c.if-place-ge16.false), c.requires.1, omega (arith, c.if-place-ge16.false))

pub shape_of-out : goal.shape_of-out
shape_of-out c = omega arith

pub returns : goal.returns
unfolding balance_named
returns c = record { wrote = rw (lt-ltb _ _ c.if-place-ge16.false) c.put_name.ensures.wrote; upper_bound = omega (arith, c.put_name.ensures.upper_bound) }
