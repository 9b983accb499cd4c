-- `put_head`: its parts one after the other.
use native.Mathlib.Omega.{arith}
use Rattle.ascii.proofs.Writing.{wrote_then}
use Rattle.ascii.specs.Text.{ascii}
use Rattle.day_text.specs.Report.{head_text}
use Rattle.numbers.specs.Numbers.{tab}
use Rattle.day_text.proofs.head.put_head.Goals as goal

pub put_byte-a-requires : goal.put_byte-a-requires
put_byte-a-requires c = omega (arith, c.requires.0)

pub put_title-b-requires : goal.put_title-b-requires
put_title-b-requires c = (omega (arith, c.put_byte-a.ensures.until, c.requires.0), c.requires.2)

pub put_doubts-c-requires : goal.put_doubts-c-requires
put_doubts-c-requires c = (omega (arith, c.put_title-b.ensures.upper_bound, c.put_byte-a.ensures.until, c.requires.0), omega (arith, c.requires.1), c.requires.2)

pub bounds-figures-128 : goal.bounds-figures-128
bounds-figures-128 c = omega (arith, c.requires.1, c.requires.2, c.requires.3, c.requires.4)

pub put_certain-e-requires : goal.put_certain-e-requires
put_certain-e-requires c = omega (arith, c.put_doubts-c.ensures.upper_bound, c.put_title-b.ensures.upper_bound, c.put_byte-a.ensures.until, c.requires.0)

pub bounds-signs-48 : goal.bounds-signs-48
bounds-signs-48 c = omega (arith, c.requires.1, c.requires.2, c.requires.3, c.requires.4)

pub bounds-figures-129 : goal.bounds-figures-129
bounds-figures-129 c = omega (arith, c.requires.1, c.requires.2, c.requires.3, c.requires.4)

pub put_misfit-f-requires : goal.put_misfit-f-requires
put_misfit-f-requires c = omega (arith, c.put_certain-e.ensures.upper_bound, c.put_doubts-c.ensures.upper_bound, c.put_title-b.ensures.upper_bound, c.put_byte-a.ensures.until, c.requires.0)

pub put_byte-requires : goal.put_byte-requires
put_byte-requires c = omega (arith, c.put_misfit-f.ensures.upper_bound, c.put_certain-e.ensures.upper_bound, c.put_doubts-c.ensures.upper_bound, c.put_title-b.ensures.upper_bound, c.put_byte-a.ensures.until, c.requires.0)

pub shape_of-out : goal.shape_of-out
shape_of-out c = omega arith

pub returns : goal.returns
unfolding ascii tab head_text
returns c = record { wrote = wrote_then c.put_byte-a.ensures (wrote_then c.put_title-b.ensures.wrote (wrote_then c.put_doubts-c.ensures.wrote (wrote_then c.put_certain-e.ensures.wrote (wrote_then c.put_misfit-f.ensures.wrote c.put_byte.ensures)))); upper_bound = omega (arith, c.put_byte.ensures.until, c.put_misfit-f.ensures.upper_bound, c.put_certain-e.ensures.upper_bound, c.put_doubts-c.ensures.upper_bound, c.put_title-b.ensures.upper_bound, c.put_byte-a.ensures.until) }
