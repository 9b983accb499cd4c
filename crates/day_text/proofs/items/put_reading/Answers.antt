-- `put_reading`: seven blanks and six digits.
use native.Mathlib.Omega.{arith}
use Rattle.ascii.proofs.Writing.{wrote_then, as-text}
use Rattle.day_text.proofs.Parts.{reading-cell}
use Rattle.day_text.proofs.items.put_reading.Goals as goal

pub put_text-a-requires : goal.put_text-a-requires
put_text-a-requires c = omega (arith, c.requires)

pub put_six-requires : goal.put_six-requires
put_six-requires c = omega (arith, c.put_text-a.ensures.until, c.requires)

pub shape_of-out : goal.shape_of-out
shape_of-out c = omega arith

pub returns : goal.returns
returns c = record { wrote = as-text (reading-cell c.args.reading) (wrote_then c.put_text-a.ensures c.put_six.ensures); upper_bound = omega (arith, c.put_six.ensures.until, c.put_text-a.ensures.until) }
