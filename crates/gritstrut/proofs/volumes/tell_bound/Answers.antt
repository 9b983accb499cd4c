-- `tell_bound`: what is told, of two.
use Rattle.gritstrut.proofs.Settling.{done-tells, refused-tells}
use Rattle.gritstrut.proofs.volumes.tell_bound.Goals as goal

pub returns-in-Ok : goal.returns-in-Ok
returns-in-Ok c = done-tells _ _ _ _ c.in-Ok.is

pub returns-in-Err : goal.returns-in-Err
returns-in-Err c = refused-tells _ _ _ _ _ _ c.in-Err.is c.number_with_place.ensures
