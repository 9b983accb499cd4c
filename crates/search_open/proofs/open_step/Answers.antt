-- `open_step`: two ways.
use Rattle.search_open.proofs.Openings.{opens-refused}
use Rattle.search_open.proofs.open_step.Goals as goal

pub returns-in-Ok : goal.returns-in-Ok
returns-in-Ok c = rw c.in-Ok.is c.open_line.ensures

pub returns-in-Err : goal.returns-in-Err
returns-in-Err c = let a = c.args in rw c.in-Err.is (opens-refused a.n a.m a.f.now a.u.now c.requires.0 _)
