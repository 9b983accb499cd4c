-- `put_inline`: with no blanks before it.
use native.Mathlib.Omega.{arith}
use Rattle.ascii.proofs.Writing.{as-text}
use Rattle.day_text.proofs.Parts.{padded-none}
use Rattle.day_text.proofs.cells.put_inline.Goals as goal

pub put_fixed-requires : goal.put_fixed-requires
put_fixed-requires c = (omega arith, omega (arith, c.requires))

pub shape_of-out : goal.shape_of-out
shape_of-out c = omega arith

pub returns : goal.returns
returns c = record { wrote = as-text (padded-none _) c.put_fixed.ensures.wrote; upper_bound = c.put_fixed.ensures.upper_bound }
