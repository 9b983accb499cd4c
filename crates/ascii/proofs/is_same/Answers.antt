-- `is_same`: the library compares as the definition does.
use mathlib.Core.Path.{◌∙◌}
use Rattle.ascii.proofs.Same.{same_pointwise}
use Rattle.ascii.proofs.is_same.Goals as goal

pub returns : goal.returns
returns c = c.eq.ensures ∙ same_pointwise c.args.a.now c.args.b.now
