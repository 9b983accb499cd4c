-- `tell_finding`: what is told, of two.
use Rattle.gritstrut.proofs.Suspecting.{done-tells, refused-tells}
use Rattle.gritstrut.proofs.meters.tell_finding.Goals as goal

pub returns-in-Ok : goal.returns-in-Ok
returns-in-Ok c = done-tells _ _ _ _ _ _ _ c.in-Ok.is c.word_of-agree.ensures c.word_of-explained.ensures

pub returns-in-Err : goal.returns-in-Err
returns-in-Err c = refused-tells _ _ _ _ _ _ _ c.in-Err.is c.number_with_place.ensures
