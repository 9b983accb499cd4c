use Rattle.interval.proofs.add_down.Goals as goal

pub returns : goal.returns
returns c = c.next_down.ensures
