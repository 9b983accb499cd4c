-- `run_first`: what is read is the day's problem.
use mathlib.Core.Path.{◌∙◌}
use Rattle.settle.specs.Settle.{first}
use Rattle.settle.proofs.run_first.Goals as goal

pub returns : goal.returns
unfolding first
returns c = let d = c.write_first.ensures in c.solve_lsei.ensures ∙ rw (d.the_c, d.the_d, d.the_e, d.the_f, d.the_g, d.the_h)
