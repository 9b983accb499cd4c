-- `limit`: the table is that of the limits.
use mathlib.Core.Path.{refl}
use Rattle.suspect.specs.Suspect.{limits}
use lib.Ieee.{round, of_bits}
use Rattle.suspect.proofs.Decisions.{limit-at}
use Rattle.suspect.proofs.decide.limit.Goals as goal

pub returns : goal.returns
unfolding limits round of_bits
returns c = limit-at _ c.args.r refl
