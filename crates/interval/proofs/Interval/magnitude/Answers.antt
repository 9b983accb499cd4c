use Rattle.interval.proofs.Interval.magnitude.Goals as goal

pub returns : goal.returns
returns c = c.larger.ensures
