-- `gritstrut_strict_step`: as the step, with the strict step's outcome.
use native.Mathlib.Omega.{arith}
use borrow.Author.Tests.{ne_eqb}
use Rattle.gritstrut.proofs.Leaves.{step-leaves, no-report}
use Rattle.gritstrut.proofs.steps.gritstrut_strict_step.Goals as goal

pub returns-then-report-ne-REPORT : goal.returns-then-report-ne-REPORT
returns-then-report-ne-REPORT c = no-report _ _ _ _ _ _ _ _ (ne_eqb _ _ c.if-report-ne-REPORT.true) _ _ c.refuse_report.ensures

pub tell-requires : goal.tell-requires
tell-requires c = c.if-report-ne-REPORT.false

pub returns : goal.returns
returns c = step-leaves _ _ _ _ _ _ _ _ _ _ _ _ c.if-report-ne-REPORT.false _ _ _ _ _ _ c.solve_strictly-answer.ensures c.tell.ensures
