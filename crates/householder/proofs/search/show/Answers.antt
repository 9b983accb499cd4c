use Rattle.householder.proofs.Leading.{shown-none}
use Rattle.householder.proofs.search.show.Goals as goal

pub returns-in-None : goal.returns-in-None
returns-in-None c = shown-none _ _ c.in-None.is
