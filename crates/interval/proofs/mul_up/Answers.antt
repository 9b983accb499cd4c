use Rattle.interval.proofs.mul_up.Goals as goal

pub returns : goal.returns
returns c = c.next_up.ensures
