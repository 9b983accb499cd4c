-- `put_report`: its parts one after the other.
use native.Mathlib.Omega.{arith}
use Rattle.ascii.proofs.Writing.{wrote_then}
use Rattle.day_text.specs.Report.{report_text}
use Rattle.day_text.proofs.put_report.Goals as goal

pub put_verdict_line-a-requires : goal.put_verdict_line-a-requires
put_verdict_line-a-requires c = (omega (arith, c.requires.in_bounds.0), omega (arith, c.requires.in_bounds.1, c.requires.in_bounds.2, c.requires.in_bounds.3, c.requires.in_bounds.4), c.requires.tables.0.lt, c.requires.tables.0.lf, c.requires.tables.0.ls)

pub put_head-b-requires : goal.put_head-b-requires
put_head-b-requires c = (omega (arith, c.put_verdict_line-a.ensures.upper_bound, c.requires.in_bounds.0), omega (arith, c.requires.in_bounds.1, c.requires.in_bounds.2, c.requires.in_bounds.3, c.requires.in_bounds.4), c.requires.tables.0.lt, c.requires.tables.0.lf, c.requires.tables.0.ls)

pub put_tables-c-requires : goal.put_tables-c-requires
put_tables-c-requires c = (omega (arith, c.put_head-b.ensures.upper_bound, c.put_verdict_line-a.ensures.upper_bound, c.requires.in_bounds.0), omega (arith, c.requires.in_bounds.1, c.requires.in_bounds.2, c.requires.in_bounds.3, c.requires.in_bounds.4), omega (arith, c.requires.in_bounds.1, c.requires.in_bounds.2, c.requires.in_bounds.3, c.requires.in_bounds.4), omega (arith, c.requires.in_bounds.1, c.requires.in_bounds.2, c.requires.in_bounds.3, c.requires.in_bounds.4), c.requires.tables.0)

pub bounds-numbers-576 : goal.bounds-numbers-576
bounds-numbers-576 c = omega (arith, c.requires.in_bounds.1, c.requires.in_bounds.2, c.requires.in_bounds.3, c.requires.in_bounds.4, c.requires.tables.0.lt, c.requires.tables.0.lw, c.requires.tables.0.ln, c.requires.tables.0.lf, c.requires.tables.0.ls, c.requires.tables.1)

pub put_end-requires : goal.put_end-requires
put_end-requires c = (omega (arith, c.put_tables-c.ensures.upper_bound, c.put_head-b.ensures.upper_bound, c.put_verdict_line-a.ensures.upper_bound, c.requires.in_bounds.0), c.requires.tables.1)

pub shape_of-out : goal.shape_of-out
shape_of-out c = omega arith

pub returns : goal.returns
unfolding report_text
returns c = wrote_then c.put_verdict_line-a.ensures.wrote (wrote_then c.put_head-b.ensures.wrote (wrote_then c.put_tables-c.ensures.wrote c.put_end.ensures))
