-- `tell`: a step's, or a refusal before it.
use Rattle.gritstrut.proofs.Leaves.{refused-tells}
use Rattle.gritstrut.proofs.steps.tell.Goals as goal

pub returns-in-Ok : goal.returns-in-Ok
returns-in-Ok c = rw c.in-Ok.is c.tell_step.ensures

pub returns-in-Err : goal.returns-in-Err
returns-in-Err c = refused-tells _ _ _ _ _ _ _ c.in-Err.is c.number.ensures c.write_bound.ensures
