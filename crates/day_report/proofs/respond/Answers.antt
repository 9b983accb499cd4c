use mathlib.Core.Path.{refl}
use Rattle.day_report.proofs.Whole.{reports}
use native.Mathlib.Omega.{arith}
use Rattle.day_report.proofs.respond.Goals as goal

pub write_report-requires : goal.write_report-requires
write_report-requires c = omega arith

pub returns : goal.returns
returns c = let r = reports c.args.bytes.now _ refl c.write_report.ensures in record { reports = r.0; upper_bound = r.1 }
