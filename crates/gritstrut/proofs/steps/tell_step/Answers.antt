-- `tell_step`: a relaxation, or why there is none.
use Rattle.gritstrut.proofs.Leaves.{stepped-done, stepped-failed}
use Rattle.gritstrut.proofs.steps.tell_step.Goals as goal

pub returns-in-Ok : goal.returns-in-Ok
returns-in-Ok c = stepped-done c.args.s _ _ _ _ _ _ c.in-Ok.is c.write_report.ensures c.gritstrut_tally_raise.ensures

pub returns-in-Err : goal.returns-in-Err
returns-in-Err c = stepped-failed c.args.s _ _ _ _ _ _ _ c.in-Err.is c.number.ensures c.write_report.ensures c.gritstrut_tally_raise.ensures
