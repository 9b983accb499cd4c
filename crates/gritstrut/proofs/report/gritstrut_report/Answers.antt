use Rattle.gritstrut.proofs.Reporting.{no_room, report-leaves}
use native.Mathlib.Omega.{arith}
use Rattle.gritstrut.proofs.report.gritstrut_report.Goals as goal

pub returns-then-report-lt81920 : goal.returns-then-report-lt81920
returns-then-report-lt81920 c = no_room _ _ _ c.if-report-lt81920.true

pub write_report-written-requires : goal.write_report-written-requires
write_report-written-requires c = omega arith

pub returns : goal.returns
returns c = report-leaves _ _ _ _ _ (omega arith) c.write_report-written.ensures
