-- `share_of`: none has it, or a sum.
use mathlib.Core.Path.{sym, ◌∙◌}
use Rattle.workspace.proofs.Readings.{lit-+0}
use Rattle.suspect.proofs.measure.share_of.Goals as goal

pub returns-then-is_outside : goal.returns-then-is_outside
returns-then-is_outside c = rw (sym c.is_outside.ensures ∙ c.if-is_outside.true) lit-+0

pub overlap_of-requires : goal.overlap_of-requires
overlap_of-requires c = let p = c.requires in (c.args.day.now.few_meters, p.1, p.0, p.0, p.2)

pub returns : goal.returns
returns c = rw (sym c.is_outside.ensures ∙ c.if-is_outside.false) c.overlap_of.ensures
