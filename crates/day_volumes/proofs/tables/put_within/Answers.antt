-- `put_within`: the two kinds of signs, and that of all.
use mathlib.Core.Path.{ap, ◌∙◌}
use Rattle.day_volumes.specs.Found.{flag}
use Rattle.day_volumes.proofs.Laid.{within-laid}
use Rattle.day_volumes.proofs.tables.put_within.Goals as goal

pub returns : goal.returns
returns c = within-laid _ _ _ _ _ _ _ _ _ _ _ _ _ c.put_closed.auto.out c.put_kept.auto.out c.put_closed.ensures c.put_kept.ensures (c.flag.ensures ∙ ap flag c.is_kept.ensures)
