-- `gritstrut_tally_raise`: both counts, by `Tally::plus`.
use Rattle.gritstrut.proofs.steps.gritstrut_tally_raise.Goals as goal

pub returns : goal.returns
returns c = rw c.plus-after.ensures
