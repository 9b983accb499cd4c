-- `limit`: the table is that of the limits.
use mathlib.Core.Path.{refl}
use native.Mathlib.Omega.{arith}
use lib.Ieee.{round, of_bits}
use Rattle.day_text.proofs.Constants.{no-limit}
use Rattle.suspect.proofs.Decisions.{limit-at}
use Rattle.suspect.specs.Suspect.{limits}
use Rattle.day_text.proofs.head.limit.Goals as goal

pub returns-then-freedom-ge17 : goal.returns-then-freedom-ge17
returns-then-freedom-ge17 c = no-limit _ c.if-freedom-ge17.true

pub offset_bounds-freedom : goal.offset_bounds-freedom
offset_bounds-freedom c = omega (arith, c.if-freedom-ge17.false)

pub bounds-freedom : goal.bounds-freedom
bounds-freedom c = omega (arith, c.if-freedom-ge17.false)

pub returns : goal.returns
unfolding limits round of_bits
returns c = limit-at _ c.args.freedom refl
