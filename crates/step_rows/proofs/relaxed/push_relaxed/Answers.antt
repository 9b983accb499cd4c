-- `push_relaxed`: two opposed rows, a loosened one, or two.
use native.Mathlib.Omega.{arith}
use Rattle.step_rows.proofs.relaxed.push_relaxed.Goals as goal

pub returns-in-Equality : goal.returns-in-Equality
returns-in-Equality c = (omega arith, rw c.in-Equality.is c.push_opposed.ensures)

pub returns-in-Floor : goal.returns-in-Floor
returns-in-Floor c = (omega arith, rw c.in-Floor.is c.push_loosened.ensures)

pub returns-in-Band : goal.returns-in-Band
returns-in-Band c = (omega arith, rw c.in-Band.is c.push_loosened_band.ensures)
