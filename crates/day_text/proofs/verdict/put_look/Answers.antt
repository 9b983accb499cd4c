-- `put_look`: nothing, or its parts one after the other.
use native.Mathlib.Omega.{arith}
use borrow.Author.Tests.{lt-ltb, le-ltb}
use Rattle.ascii.proofs.Writing.{wrote_then, wrote_none}
use Rattle.ascii.specs.Text.{ascii}
use Rattle.day_text.specs.Verdict.{look_at}
use Rattle.numbers.specs.Numbers.{tab}
use Rattle.day_text.proofs.verdict.put_look.Goals as goal

pub returns-then-n-k : goal.returns-then-n-k
unfolding look_at
returns-then-n-k c = record { wrote = rw (le-ltb _ _ c.if-n-k.true) (wrote_none _ _ (omega (arith, c.requires.0))); upper_bound = omega arith }

pub put_text-a-requires : goal.put_text-a-requires
put_text-a-requires c = omega (arith, c.requires.0)

pub put_name-b-requires : goal.put_name-b-requires
put_name-b-requires c = (omega (arith, c.put_text-a.ensures.until, c.requires.0, c.if-n-k.false), c.requires.3, omega (arith, c.requires.1, c.requires.2, c.if-n-k.false))

pub overflow_add-k : goal.overflow_add-k
overflow_add-k c = omega (arith, c.requires.1, c.requires.2, c.if-n-k.false)

pub put_others-c-requires : goal.put_others-c-requires
put_others-c-requires c = (omega (arith, c.put_name-b.ensures.upper_bound, c.put_text-a.ensures.until, c.requires.0, c.if-n-k.false), omega (arith, c.requires.1, c.requires.2, c.if-n-k.false), omega (arith, c.requires.1, c.requires.2, c.if-n-k.false), c.requires.3, c.requires.4)

pub put_text-requires : goal.put_text-requires
put_text-requires c = omega (arith, c.put_others-c.ensures.upper_bound, c.put_name-b.ensures.upper_bound, c.put_text-a.ensures.until, c.requires.0)

pub shape_of-out : goal.shape_of-out
shape_of-out c = omega arith

pub returns : goal.returns
unfolding ascii tab look_at
returns c = record { wrote = rw (lt-ltb _ _ c.if-n-k.false) (wrote_then c.put_text-a.ensures (wrote_then c.put_name-b.ensures.wrote (wrote_then c.put_others-c.ensures.wrote c.put_text.ensures))); upper_bound = omega (arith, c.put_text.ensures.until, c.put_others-c.ensures.upper_bound, c.put_name-b.ensures.upper_bound, c.put_text-a.ensures.until) }
