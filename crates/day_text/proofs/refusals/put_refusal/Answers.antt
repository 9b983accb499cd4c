-- `put_refusal`: its parts one after the other.
use native.Mathlib.Omega.{arith}
use Rattle.ascii.proofs.Writing.{wrote_then}
use Rattle.ascii.specs.Text.{ascii}
use Rattle.day_text.specs.Refusals.{refusal_text}
use Rattle.numbers.specs.Numbers.{tab}
use Rattle.day_text.proofs.refusals.put_refusal.Goals as goal

pub number-number-requires : goal.number-number-requires
number-number-requires c = tt

pub place-place-requires : goal.place-place-requires
place-place-requires c = tt

pub put_text-a-requires : goal.put_text-a-requires
put_text-a-requires c = omega (arith, c.requires.0)

pub overflow_cast-number : goal.overflow_cast-number
overflow_cast-number c = omega arith

pub put_decimal-b-requires : goal.put_decimal-b-requires
put_decimal-b-requires c = omega (arith, c.put_text-a.ensures.until, c.requires.0)

pub put_text-c-requires : goal.put_text-c-requires
put_text-c-requires c = omega (arith, c.put_decimal-b.ensures.upper_bound, c.put_text-a.ensures.until, c.requires.0)

pub put_reason-d-requires : goal.put_reason-d-requires
put_reason-d-requires c = (omega (arith, c.put_text-c.ensures.until, c.put_decimal-b.ensures.upper_bound, c.put_text-a.ensures.until, c.requires.0), c.requires.1)

pub put_byte-requires : goal.put_byte-requires
put_byte-requires c = omega (arith, c.put_reason-d.ensures.upper_bound, c.put_text-c.ensures.until, c.put_decimal-b.ensures.upper_bound, c.put_text-a.ensures.until, c.requires.0)

pub shape_of-out : goal.shape_of-out
shape_of-out c = omega arith

pub returns : goal.returns
unfolding ascii tab refusal_text
returns c = rw (← c.number-number.ensures, ← c.place-place.ensures) (wrote_then c.put_text-a.ensures (wrote_then c.put_decimal-b.ensures.wrote (wrote_then c.put_text-c.ensures (wrote_then c.put_reason-d.ensures.wrote c.put_byte.ensures))))
