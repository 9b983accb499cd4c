use mathlib.Core.Path.{◌∙◌}
use Rattle.day_volumes.proofs.Whole.{stills-are}
use Rattle.day_volumes.proofs.mark_still.Goals as goal

pub mark_still-requires : goal.mark_still-requires
mark_still-requires c = let p = c.requires in (p.2, p.3, p.4, p.5)

pub forget_stocks-requires : goal.forget_stocks-requires
forget_stocks-requires c = let p = c.requires in (p.0, p.1, c.mark_still.auto.still ∙ p.5)

pub returns : goal.returns
returns c = let a = c.args in stills-are a.n a.z.now a.values.now a.x.now a.spreads.now _ _ c.mark_still.ensures c.forget_stocks.ensures
