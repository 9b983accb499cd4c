-- `write_entries`: six writes.
use native.Mathlib.Omega.{arith}
use lib.ListN.{length-set}
use Rattle.gritstrut.proofs.Leaves.{six}
use Rattle.gritstrut.proofs.steps.write_entries.Goals as goal

pub bounds-report-0 : goal.bounds-report-0
bounds-report-0 c = omega arith

pub bounds-report-1 : goal.bounds-report-1
bounds-report-1 c = rw (length-set) (omega arith)

pub bounds-report-2 : goal.bounds-report-2
bounds-report-2 c = rw (length-set, length-set) (omega arith)

pub bounds-report-3 : goal.bounds-report-3
bounds-report-3 c = rw (length-set, length-set, length-set) (omega arith)

pub bounds-report-4 : goal.bounds-report-4
bounds-report-4 c = rw (length-set, length-set, length-set, length-set) (omega arith)

pub bounds-report-5 : goal.bounds-report-5
bounds-report-5 c = rw (length-set, length-set, length-set, length-set, length-set) (omega arith)

pub shape_of-report : goal.shape_of-report
shape_of-report c = rw (length-set, length-set, length-set, length-set, length-set, length-set) (omega arith)

pub returns : goal.returns
returns c = let a = c.args in six a.report.now a.a a.b a.c a.d a.rounds a.factorings c.requires
