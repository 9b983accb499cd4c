-- `write_report`: what a report's two stages tell, and its counts.
use mathlib.Core.Path.{◌∙◌}
use Rattle.gritstrut.proofs.steps.write_report.Goals as goal

pub returns : goal.returns
returns c = c.write_entries.ensures ∙ rw (c.outcome_number.ensures, c.stage_place.ensures, c.outcome_number-2.ensures, c.stage_place-2.ensures)
