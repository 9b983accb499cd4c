-- `gritstrut_step`: a report of another length is refused; else what the step's outcome tells goes out.
use native.Mathlib.Omega.{arith}
use borrow.Author.Tests.{ne_eqb}
use Rattle.gritstrut.proofs.Leaves.{step-leaves, no-report}
use Rattle.gritstrut.proofs.steps.gritstrut_step.Goals as goal

pub returns-then-report-ne-REPORT : goal.returns-then-report-ne-REPORT
returns-then-report-ne-REPORT c = no-report _ _ _ _ _ _ _ _ (ne_eqb _ _ c.if-report-ne-REPORT.true) _ _ c.refuse_report.ensures

pub tell-requires : goal.tell-requires
tell-requires c = c.if-report-ne-REPORT.false

pub returns : goal.returns
returns c = step-leaves _ _ _ _ _ _ _ _ _ _ _ _ c.if-report-ne-REPORT.false _ _ _ _ _ _ c.solve-answer.ensures c.tell.ensures
