use Rattle.certain.specs.Bound.{fourfold}
use mathlib.Core.Path.{refl}
use Rattle.certain.proofs.fourfold.Goals as goal

pub returns : goal.returns
unfolding fourfold
returns c = rw (c.add_up-3.ensures, c.add_up-h.ensures, c.add_up-q.ensures, c.add_up-2.ensures, c.add_up.ensures) refl
