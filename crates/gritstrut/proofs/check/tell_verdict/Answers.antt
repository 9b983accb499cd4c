-- `tell_verdict`: an outcome of two.
use Rattle.gritstrut.proofs.Checking.{done-tells, refused-tells}
use Rattle.gritstrut.proofs.check.tell_verdict.Goals as goal

pub write_verdict-requires : goal.write_verdict-requires
write_verdict-requires c = c.requires

pub returns-in-Ok : goal.returns-in-Ok
returns-in-Ok c = done-tells _ _ _ _ c.in-Ok.is c.write_verdict.ensures

pub returns-in-Err : goal.returns-in-Err
returns-in-Err c = refused-tells _ _ _ _ c.in-Err.is c.number.ensures
