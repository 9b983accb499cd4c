-- `show_in`: where no column leads nothing is written.
use mathlib.Core.Path.{refl}
use Rattle.householder.proofs.Leading.{shown-none}
use Rattle.householder.proofs.search.show_in.Goals as goal

pub returns-in-None : goal.returns-in-None
returns-in-None c = (shown-none _ _ c.in-None.is, λ x h. refl)
